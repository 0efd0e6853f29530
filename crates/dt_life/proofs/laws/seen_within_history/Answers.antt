-- No more firings are seen than the history has.
use Rattle.dt_life.specs.laws.Counted.{counted}
use Rattle.dt_life.proofs.laws.seen_within_history.Goals as goal

pub returns : goal.returns
returns c = λ account registry life. (counted account registry life).bound
