-- The tests are the relations.
use Rattle.dt_life.specs.laws.Beginning.{accepted_from, accepted_to}
use Rattle.dt_life.specs.laws.Seeing.{seen_from, seen_to}
use Rattle.dt_life.proofs.laws.tests_agree.Goals as goal

pub returns : goal.returns
returns c = record {
  seen = λ account registry life firing. (
    seen_from account registry life firing,
    seen_to account registry life firing,
  );
  go = λ account registry life line. (
    accepted_from account registry life line,
    accepted_to account registry life line,
  );
}
