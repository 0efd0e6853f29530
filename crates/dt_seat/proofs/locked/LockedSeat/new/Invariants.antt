-- So many processors have what they have at first.
use Rattle.std.proofs.Common.{◌≡◌, ℕ, [], length}
use Rattle.std.specs.List.{slice_get}
use Rattle.std.specs.Option.{IfSome}
use Rattle.dt_facts.specs.Facts.{life_fact}
use Rattle.dt_facts.specs.Handles.{holding, making}
use Rattle.dt_seat.specs.Keeps.{Followed, IsLeft, followed_at}
use Rattle.dt_seat.specs.Knowledge.{known_items}
use Rattle.dt_seat.specs.Names.{known_name, life_name, processor_name}
use Rattle.dt_seat.proofs.locked.LockedSeat.new.Given as goal

abbrev pub invariant-processors : goal.invariant-processors
invariant-processors g l = record {
  keeps : length l.keeps.items ≡ l.cpu;
  followers : length l.followers.items ≡ l.cpu;
  left : (cpu : ℕ) → IfSome (slice_get l.keeps.items cpu) (IsLeft g.J.HubSite.word g.J.Traced.contents.registry.cpus l.fn.number cpu 0);
  first : (cpu : ℕ) → IfSome (slice_get l.followers.items cpu) (λ (f : Followed). f ≡ followed_at l.fn.number cpu);
  lives : l.lives ≡ holding g.J.HubSite.word (life_name g.J.Traced.contents.registry.cpus l.fn.number) (life_fact []);
  known : l.known ≡ known_items g.J.HubSite.word (known_name g.J.Traced.contents.registry.cpus l.fn.number) [];
  maker : l.maker ≡ making g.J.HubSite.word (processor_name g.J.Traced.contents.registry.cpus l.fn.number l.cpu);
}
