-- What is to be shown of `pictures_are_plain`.
use Rattle.dt_front.proofs.PlainLabels.{levels_printed, powers_printed}
use Rattle.dt_front.proofs.PlainRows.{picture_lines}
use Rattle.dt_front.proofs.laws.pictures_are_plain.Goals as goal

pub returns : goal.returns
returns c = record { picture = picture_lines; powers = powers_printed; levels = levels_printed }
