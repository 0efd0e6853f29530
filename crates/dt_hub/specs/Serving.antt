-- When what a look named is named for a further firing.
use Rattle.std.specs.Prelude.{◌≡◌, List}
use Rattle.dt_chain.specs.Chains.{IsMaskAfter}
use Rattle.dt_chain.specs.Writes.{Write}
use Rattle.dt_chain.specs.declared.seat_mask.SeatMask.{SeatMask}
use Rattle.dt_cred.specs.declared.firing.Firing.{Firing}
use Rattle.dt_hub.specs.declared.naming.FiringKind.{FiringKind}
use Rattle.dt_machine.specs.Registry.{Registry}

-- a firing is of a kind: it has its processor, its probe, its process and its mode
abbrev pub IsOfKind : FiringKind → Firing → Type 0
IsOfKind kind firing =
    (kind.cpu ≡ firing.cpu) × (kind.probe ≡ firing.probe) × (kind.pid ≡ firing.pid) × (kind.mode ≡ firing.mode)

-- After these writes a mask names for each firing of a kind what a look names.
abbrev pub Serves : Registry → SeatMask → (front : List Write) → FiringKind → Type 0
Serves registry mask front kind = (firing : Firing) → IsOfKind kind firing → IsMaskAfter registry front firing mask
