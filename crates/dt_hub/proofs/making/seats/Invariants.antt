-- So many seats are made, each processor has what it has at them, and the shares of the seats to come are left.
use Rattle.std.proofs.Common.{◌≡◌, ◌+◌, ℕ, length}
use Rattle.std.specs.List.{slice_get}
use Rattle.dt_chain.specs.Limits.{seat_count}
use Rattle.dt_facts.specs.Handles.{making}
use Rattle.dt_hub.specs.Hubs.{AreDealt}
use Rattle.dt_seat.specs.Names.{first_name}
use Rattle.dt_hub.proofs.making.seats.Given as goal

abbrev pub invariant-seats : goal.invariant-seats
invariant-seats g l = record {
  many : length l.seats.items ≡ l.number;
  dealt : AreDealt g.J.Traced.contents.registry.cpus l.number l.hands.items;
  left : length l.shares.items + l.number ≡ seat_count;
  each : (k : ℕ) → slice_get l.shares.items k ≡ slice_get l.fn.shares.items (l.number + k);
  maker : l.maker ≡ making g.J.HubSite.word (first_name g.J.Traced.contents.registry.cpus l.number);
}
