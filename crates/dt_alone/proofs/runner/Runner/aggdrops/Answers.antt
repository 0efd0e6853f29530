-- The drops of one store more, and then of all.
use Rattle.std.proofs.Common.{ℕ, length, ap, ◌∙◌, sym, subst, arith}
use Rattle.dt_aggstore.specs.History.{Past}
use Rattle.dt_aggstore.specs.IsAt.{IsAt}
use Rattle.dt_alone.specs.Happened.{given_to}
use Rattle.dt_life.specs.Life.{phase_of, set_up}
use Rattle.dt_life.specs.Uses.{AreGiven}
use Rattle.dt_life.specs.laws.Lists.{found_at}
use Rattle.dt_life.specs.laws.Stores.{dropped_more}
use Rattle.dt_alone.proofs.Recounting.{all_drops}
use Rattle.dt_alone.proofs.runner.Runner.aggdrops.Goals as goal

pub loop-store-preserved : goal.loop-store-preserved
loop-store-preserved c =
    let i = c.loop-store.store-index in
    let stores = c.deref-store-items.result.now in
    let pasts : ℕ → Past = λ cpu. record
    { size = c.args.self.now.options.aggsize; events = given_to cpu c.args.self.now.since.items } in
    let given : AreGiven (λ cpu. record
    { size = c.args.self.now.options.aggsize; events = given_to cpu c.deref.result.now }) stores =
    subst
    (AreGiven (λ cpu. record { size = c.args.self.now.options.aggsize; events = given_to cpu c.deref.result.now }))
    (sym c.deref-store-items.ensures.value) c.in_ok-stores.ensures.each in
    let at : AreGiven pasts stores =
    subst (λ hs. AreGiven (λ cpu. record { size = c.args.self.now.options.aggsize; events = given_to cpu hs }) stores)
    c.deref.ensures.value given in
    let here = found_at (IsAt (pasts i)) stores i c.store-item.result c.loop-store-test.true c.store-item.is (at i) in
    c.in_ok-push.ensures.items
    ∙ dropped_more pasts c.loop-store.aggdrops.items i c.dropped.result c.loop-store.invariant
    (c.dropped.ensures (pasts i) here)

pub returns : goal.returns
returns c = λ account life h.
    let registry = c.args.machine.now.registry in
    let s = set_up account registry life in
    c.loop-store.invariant
    ∙ all_drops account registry s (phase_of s) c.args.self.now h.within c.loop-store.store-index
    (omega (
      arith,
      c.loop-store-test.false,
      c.loop-store.auto.store-index-end,
      ap length c.deref-store-items.ensures.value,
      c.in_ok-stores.ensures.len,
      c.cpus.ensures.value,
    ))
