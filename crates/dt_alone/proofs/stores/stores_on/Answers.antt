-- One thing more was given.
use Rattle.std.proofs.Common.{◌≡◌, ℕ, ◌+◌, ◌-◌, ◌*◌, ◌≤◌, Bool, true, false, cond, ◌++◌, [], ◌∷◌, length, take, sym, ap, ◌∙◌, subst, arith}
use Rattle.std.specs.List.{All, slice_get}
use Rattle.std.proofs.lemmas.List.{append-nil, take_more, with_items_is}
use Rattle.std.specs.Vec.{with_items}
use Rattle.std.proofs.lemmas.Grind.{flat_map-append}
use Rattle.dt_aggstore.specs.History.{Past}
use Rattle.dt_program.specs.declared.clause.TheConstants.{STATEMENTS_MAX}
use Rattle.dt_alone.specs.Happened.{given_to, gives_to, is_left, left_count}
use Rattle.dt_alone.proofs.Bringing.{count_more, count_within}
use Rattle.dt_aggstore.specs.declared.limits.TheConstants.{ADDED_LIMIT}
use Rattle.std.proofs.lemmas.List.Elements.{All-weaker}
use Rattle.dt_life.specs.Uses.{GivenAtMost, AreGiven, given_then}
use Rattle.dt_life.specs.laws.Giving.{same_at}
use Rattle.dt_life.specs.laws.Options.{if_some_map}
use Rattle.dt_alone.proofs.stores.stores_on.Goals as goal

times : (b : Bool) (n most : ℕ) → n * most + cond b most 0 ≡ (n + cond b 1 0) * most
times true n most = omega arith
times false n most = omega arith

pub loop-one-preserved : goal.loop-one-preserved
loop-one-preserved c =
    let hs = c.args.happened.now in
    let i = c.loop-one.one-index in
    let x = c.one-item.result in
    let more : (cpu : ℕ) → given_to cpu (take i hs) ++ gives_to cpu x ≡ given_to cpu (take (i + 1) hs) =
    λ cpu.
    ap (λ given. given_to cpu (take i hs) ++ given) (sym (append-nil (gives_to cpu x)))
    ∙ sym (flat_map-append (gives_to cpu) (take i hs) (x ∷ []))
    ∙ ap (given_to cpu) (sym (take_more hs i x c.loop-one-test.true
    ∙ ap (λ e. take i hs ++ e ∷ []) (sym c.one-item.is))) in
    let P : ℕ → Past = λ cpu. record { size = c.args.size; events = given_to cpu (take i hs) } in
    let same : c.as_mut_slice.result.now ≡ c.loop-one.stores.items = c.as_mut_slice.ensures.value in
    let after : (with_items c.loop-one.stores c.give.new.stores).items ≡ c.give.new.stores =
    with_items_is c.loop-one.stores c.give.new.stores (omega (arith, c.give.ensures.len, ap length same)) in
    let given : AreGiven (λ cpu. given_then (P cpu) (gives_to cpu x)) c.give.new.stores =
    c.give.ensures.stands P (subst (AreGiven P) (sym same) c.loop-one.invariant.each) in
    let counts = c.give.ensures.counts (left_count (take i hs) * STATEMENTS_MAX)
    (subst (All (GivenAtMost (left_count (take i hs) * STATEMENTS_MAX))) (sym same) c.loop-one.invariant.gives) in
    record {
      each = subst (AreGiven (λ cpu. record { size = c.args.size; events = given_to cpu (take (i + 1) hs) }))
          (sym after)
          (λ cpu. if_some_map _ _ (slice_get c.give.new.stores cpu)
          (λ st at. same_at _ _ st (ap (λ events. record { size = c.args.size; events = events }) (more cpu)) at)
          (given cpu));
      len = ap length after ∙ c.give.ensures.len ∙ ap length same ∙ c.loop-one.invariant.len;
      gives = subst (All (GivenAtMost (left_count (take (i + 1) hs) * STATEMENTS_MAX))) (sym after)
          (subst (λ n. All (GivenAtMost n) c.give.new.stores)
          (times (is_left x) (left_count (take i hs)) STATEMENTS_MAX
          ∙ ap (λ n. n * STATEMENTS_MAX) (sym (count_more is_left hs i x c.loop-one-test.true c.one-item.is))) counts);
    }

pub give-requires : goal.give-requires
give-requires c = λ left.
    let hs = c.args.happened.now in
    let i = c.loop-one.one-index in
    let x = c.one-item.result in
    let more = count_more is_left hs i x c.loop-one-test.true c.one-item.is ∙ ap (λ b. left_count (take i hs) + cond b 1 0) left in
    let few : left_count (take i hs) * STATEMENTS_MAX ≤ ADDED_LIMIT - STATEMENTS_MAX =
    omega (arith, more, count_within is_left hs (i + 1), c.requires.few) in
    All-weaker (GivenAtMost (left_count (take i hs) * STATEMENTS_MAX)) (GivenAtMost (ADDED_LIMIT - STATEMENTS_MAX))
    (λ st at. omega (arith, at, few)) _
    (subst (All (GivenAtMost (left_count (take i hs) * STATEMENTS_MAX))) (sym c.as_mut_slice.ensures.value) c.loop-one.invariant.gives)
