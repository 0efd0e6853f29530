-- What is to be shown of `new`.
use Rattle.dt_alone.proofs.Judging.{no_least}
use Rattle.dt_alone.proofs.judge.Judge.new.Goals as goal

pub returns : goal.returns
returns c = λ contents. record { runs = c.new.ensures contents.registry; least = no_least }
