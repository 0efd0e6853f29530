-- What is seen is named by the interest of the life's ECBs.
use Rattle.dt_ecb.specs.laws.Interest.{wanted_to, interest_to}
use Rattle.dt_life.specs.Life.{ecbs}
use Rattle.dt_life.proofs.laws.seen_by_interest.Goals as goal

pub returns : goal.returns
returns c = record {
  belongs = λ account registry life firing h. h.belongs;
  interested = λ account registry life firing h.
      interest_to (ecbs account registry life) firing.probe
      (wanted_to (ecbs account registry life) firing.probe h.named);
  admitted = λ account registry life firing h. h.admitted;
}
