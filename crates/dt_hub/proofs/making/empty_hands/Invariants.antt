-- So many processors have their room.
use Rattle.std.proofs.Common.{◌≤◌, ◌-◌, length}
use Rattle.dt_hub.specs.Hubs.{AreDealt}
use Rattle.dt_hub.proofs.making.empty_hands.Given as goal

abbrev pub invariant-hands : goal.invariant-hands
invariant-hands g l = record {
  few : length l.hands.items ≤ l.cpus;
  dealt : AreDealt (length l.hands.items) 0 l.hands.items;
}

abbrev pub decreases-hands : goal.decreases-hands
decreases-hands g l = l.cpus - length l.hands.items
