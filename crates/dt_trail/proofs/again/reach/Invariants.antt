use Rattle.std.proofs.Common.{◌≡◌, ◌≤◌, ◌-◌}
use Rattle.dt_trail.specs.Rule.{reviewed, through}
use Rattle.dt_trail.specs.Insides.{SameSeat, IsDoor}
use Rattle.dt_trail.proofs.again.reach.Given as goal

abbrev pub invariant-doors : goal.invariant-doors
invariant-doors g l = record {
  same : SameSeat l.initial.seat l.seat;
  view : l.seat.me ≡ reviewed l.initial.seat.me (through l.initial.seat.me.view l.door);
  door : IsDoor l.door;
  low : l.door.from ≤ l.fn.k;
}

abbrev pub decreases-doors : goal.decreases-doors
decreases-doors g l = l.fn.k - l.door.from
