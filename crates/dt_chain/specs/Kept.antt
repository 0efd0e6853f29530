-- How publications are kept.
use Rattle.std.specs.Prelude.{ℕ, Option, Some, None, option_and_then, if◌then◌else◌}
use Rattle.dt_cred.specs.declared.firing.Firing.{Firing}
use Rattle.dt_machine.specs.Registry.{Registry}
use Rattle.dt_machine.specs.Tests.{is_shown}
use Rattle.dt_chain.specs.Writes.{Published}
use Rattle.dt_chain.specs.declared.entries.SeatSlot.{SeatSlot}

-- what is kept of a publication beside the lists
abbrev pub slot_of : Published → SeatSlot
slot_of publication = record { life = publication.life; account = publication.account }

-- the life of a slot whose account is shown a firing
abbrev pub life_shown : Registry → Firing → Option SeatSlot → Option ℕ
life_shown registry firing slot =
    option_and_then (λ slot. if is_shown slot.account registry firing then Some slot.life else None) slot
