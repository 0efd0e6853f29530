-- What is to be shown of `take`.
use Rattle.dt_alone.proofs.judge.Judge.take.Goals as goal

pub returns-in-Line : goal.returns-in-Line
returns-in-Line c = rw c.in-Line.is c.take_line.ensures

pub returns-in-Fired : goal.returns-in-Fired
returns-in-Fired c = rw c.in-Fired.is c.take_firing.ensures
