-- One free seat more.
use Rattle.std.proofs.Common.{sym, subst, IfSome, None, [], slice_get, arith}
use Rattle.dt_steps.specs.Stands.{IsPlace}
use Rattle.dt_steps.proofs.FreeSeats.{each_pushed}
use Rattle.dt_steps.proofs.place.free_seats.Goals as goal

pub loop-seat-preserved : goal.loop-seat-preserved
loop-seat-preserved c = record {
  count = search (arith, c.loop-seat.invariant.count);
  free = λ registry seat.
      subst (λ items. IfSome (slice_get items seat) (IsPlace registry (record { present = None; earlier = [] })))
      (sym c.in_ok-push.ensures.items)
      (each_pushed (IsPlace registry (record { present = None; earlier = [] })) c.loop-seat.seats.items c.new.result
      (c.loop-seat.invariant.free registry) (c.new.ensures registry) seat);
}
