use Rattle.std.proofs.Common.{◌≡◌, ◌+◌}
use Rattle.dt_server.proofs.working.fire_many.Given as goal

-- so many firings were made
abbrev pub invariant-firings : goal.invariant-firings
invariant-firings g l = (l.cpu_seat.place ≡ l.fn.cpu_seat.place + l.made) × (l.cpu_seat.cpu ≡ l.fn.cpu_seat.cpu)
