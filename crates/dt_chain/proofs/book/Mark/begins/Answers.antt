use Rattle.std.proofs.Common.{ap, subst, List}
use mathlib.Core.List.{IsPrefix}
use Rattle.dt_chain.specs.Writes.{Write}
use Rattle.dt_chain.proofs.Fronts.{prefix_order}
use Rattle.dt_chain.proofs.book.Mark.begins.Goals as goal

pub returns-clause-order : goal.returns-clause-order
returns-clause-order c =
    let both = c.learn.new.self.log in
    let this : IsPrefix c.self.inside.seen.log both =
    subst (λ (l : List Write). IsPrefix l both) (ap (λ s. s.log) c.again-both.ensures) c.learn.ensures.2 in
    rw (← c.self.view_is, ← c.other.view_is, c.self.invariant, c.other.invariant)
    (prefix_order c.self.inside.seen.log c.other.inside.seen.log both this c.learn.ensures.3)
