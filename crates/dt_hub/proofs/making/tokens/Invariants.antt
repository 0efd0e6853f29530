-- So many processors have their tokens.
use Rattle.std.proofs.Common.{◌≡◌, ◌≤◌, ◌+◌, ℕ, length}
use Rattle.std.specs.List.{slice_get}
use Rattle.std.specs.Option.{IfSome}
use Rattle.dt_chain.specs.Limits.{seat_count}
use Rattle.dt_facts.specs.Handles.{making}
use Rattle.dt_hub.specs.Hubs.{IsFresh}
use Rattle.dt_seat.specs.Names.{first_name}
use Rattle.dt_hub.proofs.making.tokens.Given as goal

abbrev pub invariant-processors : goal.invariant-processors
invariant-processors g l = record {
  many : length l.made.items ≡ l.cpu;
  hands : length l.hands.items ≡ g.J.Traced.contents.registry.cpus;
  rest : (k : ℕ) → l.cpu ≤ k → slice_get l.hands.items k ≡ slice_get l.fn.hands.items k;
  each : (k : ℕ) → IfSome (slice_get l.made.items k) (IsFresh k);
  maker : l.maker ≡ making g.J.HubSite.word (first_name g.J.Traced.contents.registry.cpus seat_count + l.cpu);
}
