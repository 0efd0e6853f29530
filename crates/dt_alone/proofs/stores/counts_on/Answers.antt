-- One thing more.
use Rattle.std.proofs.Common.{◌≡◌, ℕ, ◌+◌, ◌<◌, ◌≤◌, Bool, true, false, cond, get_or, length, take, sym, ap, ◌∙◌}
use Rattle.std.proofs.Common.{arith}
use Rattle.std.specs.Vec.{with_items}
use Rattle.std.proofs.lemmas.List.{get_or-replicate, length-replicate, take_all, with_items_is}
use Rattle.std.proofs.lemmas.List.FromFn.{fill_by_all}
use Rattle.dt_alone.specs.Happened.{counted_on, is_counted_on}
use Rattle.dt_alone.proofs.Bringing.{counts_more}
use Rattle.dt_alone.proofs.stores.counts_on.Goals as goal

one_at_most : (b : Bool) → cond b 1 0 ≤ 1
one_at_most true = omega arith
one_at_most false = omega arith

pub loop-one-init : goal.loop-one-init
loop-one-init c =
    let fresh = c.in_ok-counts.ensures.items_if_clones_equal (λ y h. h) in
    let none : (cpu : ℕ) → cpu < c.args.cpus → get_or c.in_ok-counts.counts.items cpu 0 ≡ 0 =
    λ cpu low. ap (λ counts. get_or counts cpu 0) fresh ∙ get_or-replicate c.args.cpus cpu 0 0 low in
    record {
      counted = none;
      few = λ cpu low. let is = none cpu low in omega arith;
      len = ap length fresh ∙ length-replicate c.args.cpus 0;
    }

pub count-requires : goal.count-requires
count-requires c = λ cpu low.
    let same = c.as_mut_slice.ensures.value in
    let before = c.loop-one.invariant in
    let within : cpu < c.args.cpus = omega (arith, ap length same, before.len) in
    let few = before.few cpu within in
    let is = ap (λ counts. get_or counts cpu 0) same in
    omega arith

pub loop-one-preserved : goal.loop-one-preserved
loop-one-preserved c =
    let hs = c.args.happened.now in
    let i = c.loop-one.one-index in
    let x = c.one-item.result in
    let before = c.loop-one.invariant in
    let same = c.as_mut_slice.ensures.value in
    let after : (with_items c.loop-one.counts c.count.new.counts).items ≡ c.count.new.counts =
    with_items_is c.loop-one.counts c.count.new.counts
    (omega (arith, c.count.ensures.len, ap length same)) in
    let now : (cpu : ℕ) → cpu < c.args.cpus
    → get_or (with_items c.loop-one.counts c.count.new.counts).items cpu 0
    ≡ get_or c.loop-one.counts.items cpu 0 + cond (is_counted_on c.args.what cpu x) 1 0 =
    λ cpu low.
    ap (λ counts. get_or counts cpu 0) after
    ∙ c.count.ensures.counts cpu (omega (arith, ap length same, before.len))
    ∙ ap (λ counts. get_or counts cpu 0 + cond (is_counted_on c.args.what cpu x) 1 0) same in
    record {
      counted = λ cpu low.
          now cpu low ∙ ap (λ n. n + cond (is_counted_on c.args.what cpu x) 1 0) (before.counted cpu low)
          ∙ sym (counts_more c.args.what cpu hs i x c.loop-one-test.true c.one-item.is);
      few = λ cpu low.
          let is = now cpu low in
          let most = one_at_most (is_counted_on c.args.what cpu x) in
          let was = before.few cpu low in
          omega arith;
      len = ap length after ∙ c.count.ensures.len ∙ ap length same ∙ before.len;
    }

pub returns : goal.returns
returns c =
    let hs = c.args.happened.now in
    let counts = c.loop-one.counts.items in
    let whole : take c.loop-one.one-index hs ≡ hs = take_all c.loop-one.one-index hs c.loop-one-test.false in
    fill_by_all (λ cpu. counted_on c.args.what cpu hs) counts c.args.cpus 0 c.loop-one.invariant.len
    (λ cpu low. c.loop-one.invariant.counted cpu low ∙ ap (counted_on c.args.what cpu) whole)
