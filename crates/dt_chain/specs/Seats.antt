-- Which seats are in a set, and which a mask names.
use Rattle.std.specs.Prelude.{ℕ, Bool, Option, Some, None, if◌then◌else◌, slice_index}
use Rattle.dt_machine.specs.BitWord.{has_in}
use Rattle.dt_chain.specs.declared.seat_set.SeatSet.{SeatSet}
use Rattle.dt_chain.specs.declared.seat_mask.SeatMask.{SeatMask}

-- whether a seat is in a set: each word has 64 seats
abbrev pub has : SeatSet → ℕ → Bool
has seats seat = has_in seats.words seat

-- the life that a mask names a seat with, if it names it
abbrev pub life_at : SeatMask → ℕ → Option ℕ
life_at mask seat = if has mask.seats seat then Some (slice_index mask.lives seat) else None
