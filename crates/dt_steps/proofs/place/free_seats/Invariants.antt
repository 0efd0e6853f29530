-- What holds at each turn of a loop of `free_seats`.
use Rattle.std.proofs.Common.{◌≡◌, ℕ, [], None, IfSome, vec_len, slice_get}
use Rattle.dt_machine.specs.Registry.{Registry}
use Rattle.dt_steps.specs.Stands.{IsPlace}
use Rattle.dt_steps.proofs.place.free_seats.Given as goal

abbrev pub invariant-loop-seat : goal.invariant-loop-seat
invariant-loop-seat l = record {
  count : vec_len l.seats ≡ l._seat;
  free : (registry : Registry) (seat : ℕ)
      → IfSome (slice_get l.seats.items seat) (IsPlace registry (record { present = None; earlier = [] }));
}
