use Rattle.std.proofs.Common.{◌≡◌, subst, MatchOption}
use Rattle.dt_trail.specs.Known.{KnowsNext}
use Rattle.dt_trail.proofs.Growth.{grows_next}
use Rattle.dt_trail.proofs.note.TrailNote.catch_up.Goals as goal

pub items-preserved : goal.items-preserved
items-preserved g c =
    let next = subst (λ r. MatchOption r (c.read.new.self ≡ c.items.self) (λ seen. KnowsNext c.items.self seen c.read.new.self)) c.in-Some.is c.read.ensures.next in
    grows_next _ _ _ _ c.items.invariant next
