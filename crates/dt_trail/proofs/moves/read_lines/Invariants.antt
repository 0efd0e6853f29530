use Rattle.std.proofs.Common.{◌≡◌}
use Rattle.dt_trail.specs.Insides.{SameSeat}
use Rattle.dt_trail.proofs.moves.read_lines.Given as goal

-- the seat stays as it is
abbrev pub invariant-lines : goal.invariant-lines
invariant-lines g l = SameSeat l.initial.seat l.seat × (l.seat.me ≡ l.initial.seat.me)
