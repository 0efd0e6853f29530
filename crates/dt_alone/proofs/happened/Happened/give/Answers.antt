-- A clause's contributions go to the store of its processor.
use Rattle.std.proofs.Common.{subst, arith}
use Rattle.dt_aggstore.specs.IsAt.{IsAt}
use Rattle.dt_alone.proofs.Storing.{left_there, left_nowhere}
use Rattle.dt_alone.proofs.happened.Happened.give.Goals as goal

pub returns-then-cpu-stores-clause-stands : goal.returns-then-cpu-stores-clause-stands
returns-then-cpu-stores-clause-stands c = λ pasts at. rw c.in-Left.is (left_there pasts c.args.stores.now c.in-Left.cpu
    c.in-Left.in_end c.in-Left.left at c.index-stores-cpu.result c.give.new.store c.if-cpu-stores.true
    c.index-stores-cpu.is
    (λ here. c.give.ensures.stands (pasts c.in-Left.cpu)
    (subst (IsAt (pasts c.in-Left.cpu)) c.index-stores-cpu.is here)))

pub returns-else-cpu-stores-clause-stands : goal.returns-else-cpu-stores-clause-stands
returns-else-cpu-stores-clause-stands c =
    λ pasts at. rw c.in-Left.is (left_nowhere pasts c.args.stores.now c.in-Left.cpu
    c.in-Left.in_end c.in-Left.left at (omega (arith, c.if-cpu-stores.false)))
