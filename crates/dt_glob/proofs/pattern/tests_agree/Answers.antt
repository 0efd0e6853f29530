-- What the proof of `tests_agree` is told at its goals.
use Rattle.dt_glob.proofs.TestLemmas.{Decides-is_match}
use Rattle.dt_glob.proofs.pattern.tests_agree.Goals as goal

pub returns : goal.returns
returns c = Decides-is_match
