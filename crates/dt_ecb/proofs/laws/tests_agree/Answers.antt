-- The interest of ECBs has exactly the probes that they name.
use Rattle.dt_ecb.specs.laws.Interest.{wanted_from, wanted_to, interest_from, interest_to}
use Rattle.dt_ecb.proofs.laws.tests_agree.Goals as goal

pub returns : goal.returns
returns c = λ ecbs id. (
  λ h. wanted_from ecbs id (interest_from ecbs id h),
  λ h. interest_to ecbs id (wanted_to ecbs id h),
)
