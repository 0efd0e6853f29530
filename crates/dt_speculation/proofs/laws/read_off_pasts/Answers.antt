-- What is read off a past.
use Rattle.dt_speculation.specs.laws.Parts.{draw_answers, part_is}
use Rattle.dt_speculation.proofs.laws.read_off_pasts.Goals as goal

pub returns-clause-answer : goal.returns-clause-answer
returns-clause-answer c = draw_answers

pub returns-clause-part : goal.returns-clause-part
returns-clause-part c = part_is
