-- Who is listed for a probe, and what a seat is interested in.
use Rattle.std.specs.Prelude.{ℕ, Bool, false, List, slice_get}
use Rattle.std.specs.Option.{option_map_or}
use Rattle.dt_machine.specs.Interest.{has_probe}
use Rattle.dt_machine.specs.declared.interest.Interest.{Interest}
use Rattle.dt_chain.specs.Seats.{has}
use Rattle.dt_chain.specs.declared.seat_set.SeatSet.{SeatSet}

-- whether a seat is among those that are listed for a probe
abbrev pub is_listed_for : List SeatSet → (probe seat : ℕ) → Bool
is_listed_for lists probe seat = option_map_or (λ seats. has seats seat) (slice_get lists probe) false

-- whether a seat is interested in a probe
abbrev pub is_interested : List Interest → (seat probe : ℕ) → Bool
is_interested interests seat probe = option_map_or (λ interest. has_probe interest probe) (slice_get interests seat) false
