-- What was named last is named for a firing of that kind.
use Rattle.std.proofs.Common.{List, subst}
use Rattle.dt_chain.specs.Chains.{IsMaskAfter}
use Rattle.dt_chain.specs.Writes.{Write}
use Rattle.dt_chain.specs.declared.seat_mask.SeatMask.{SeatMask}
use Rattle.dt_hub.proofs.naming.Naming.serves.Goals as goal

pub returns-clause-mask : goal.returns-clause-mask
returns-clause-mask g c = λ so.
    let registry = g.J.Traced.contents.registry in
    let firing = c.args.firing.now in
    let last = c.in-Some.last in
    let named = c.self.invariant last c.in-Some.is firing (c.has.ensures c.if-not-has.false) in
    subst (λ (mask : SeatMask). IsMaskAfter registry c.args.reader.now.seen firing mask) c.self.view_is
    (subst (λ (front : List Write). IsMaskAfter registry front firing c.self.inside.mask) (c.is_all_known.ensures.seen so) named)
