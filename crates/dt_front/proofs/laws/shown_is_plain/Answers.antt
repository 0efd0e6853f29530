-- What is to be shown of `shown_is_plain`.
use Rattle.dt_front.proofs.Plain.{bytes_plain}
use Rattle.dt_front.proofs.laws.shown_is_plain.Goals as goal

pub returns : goal.returns
returns c = bytes_plain
