-- What is to be shown of `new`.
use Rattle.std.proofs.Common.{◌≡◌, ℕ, arith}
use Rattle.std.proofs.lemmas.Grind.{common_steps}
use Rattle.dt_life.specs.laws.Lists.{pushed}
use Rattle.dt_seat.specs.Keeps.{Followed, IsLeft, KeptNote, followed_at}
use Rattle.dt_seat.proofs.locked.LockedSeat.new.Goals as goal

pub processors-preserved : goal.processors-preserved
processors-preserved g c = record {
  keeps = grind (arith, common_steps);
  followers = grind (arith, common_steps);
  left = rw c.in_ok-push.ensures.items
      (pushed (λ (cpu : ℕ) (k : KeptNote). IsLeft g.J.HubSite.word g.J.Traced.contents.registry.cpus c.args.number cpu 0 k)
      c.processors.keeps.items c.first_keep-keep.result.0 c.processors.invariant.left
      (rw c.processors.invariant.keeps c.first_keep-keep.ensures.keep));
  first = rw c.in_ok-push-2.ensures.items
      (pushed (λ (cpu : ℕ) (f : Followed). f ≡ followed_at c.args.number cpu)
      c.processors.followers.items c.first_keep-keep.result.1 c.processors.invariant.first
      (rw c.processors.invariant.followers c.first_keep-keep.ensures.follower));
  lives = grind (arith, common_steps);
  known = grind (arith, common_steps);
  maker = grind (arith, common_steps);
}
