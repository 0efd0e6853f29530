-- The drops of one store more.
use Rattle.std.proofs.Common.{◌∙◌, sym, subst}
use Rattle.dt_aggstore.specs.IsAt.{IsAt}
use Rattle.dt_life.specs.Uses.{AreGiven}
use Rattle.dt_life.specs.laws.Lists.{found_at}
use Rattle.dt_life.specs.laws.Stores.{dropped_more}
use Rattle.dt_consumer.proofs.processors.Processors.aggdrops.Goals as goal

pub loop-store-preserved : goal.loop-store-preserved
loop-store-preserved c = λ pasts at.
    let i = c.loop-store.store-index in
    let stores = c.deref-store-items.result.now in
    let here = found_at (IsAt (pasts i)) stores i c.store-item.result c.loop-store-test.true c.store-item.is
    (subst (λ xs. AreGiven pasts xs) (sym c.deref-store-items.ensures.value) at i) in
    c.in_ok-push.ensures.items
    ∙ dropped_more pasts c.loop-store.aggdrops.items i c.dropped.result (c.loop-store.invariant pasts at)
    (c.dropped.ensures (pasts i) here)
