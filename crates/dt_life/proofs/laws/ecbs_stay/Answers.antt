-- From its `go` on a life keeps its ECBs.
use Rattle.std.proofs.Common.{◌≡◌, ◌≢◌, false, refl, ap}
use Rattle.dt_ecb.specs.Ecbs.{ecbs_of}
use Rattle.dt_life.specs.Life.{is_inactive, phase, set_up}
use Rattle.dt_life.specs.declared.phase.Phase.{Phase}
use Rattle.dt_life.specs.declared.phase.Phase.TheVariants.{Inactive, Active, Stopped}
use Rattle.dt_life.specs.laws.Phases.{keeping}
use Rattle.dt_life.proofs.laws.ecbs_stay.Goals as goal

begun : (phase : Phase) → phase ≢ Inactive → is_inactive phase ≡ false
begun Inactive h = absurd (h refl)
begun Active h = refl
begun (Stopped cause) h = refl

pub returns : goal.returns
returns c = λ account registry life item on.
    ap (ecbs_of account registry)
    (keeping account registry (set_up account registry life) (begun (phase account registry life) on) item)
