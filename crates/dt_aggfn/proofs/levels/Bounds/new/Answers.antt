-- The tests are what bounds are.
use Rattle.std.proofs.Common.{◌≡◌, ◌<◌, ◌^◌, ℤ, pos, ◌-ℤ◌, to_z, of_z, w64, arith, int_lt, int_div, true}
use Rattle.std.proofs.lemmas.Int.{ints}
use Rattle.std.specs.Int.Signed.{mag}
use mir.Syntax.{w128}
use Rattle.dt_aggfn.proofs.BoundLemmas.{no_rest, some_rest, same_quotient, not_above, above}
use Rattle.dt_aggfn.specs.Bounds.{AreBounds}
use Rattle.dt_aggfn.specs.laws.BoundsOf.{no_bounds_of, some_bounds_of}
use Rattle.std.proofs.lemmas.Int.{to_z-of_z}
use Rattle.dt_aggfn.proofs.levels.Bounds.new.Goals.{then-lower-upper-via-then-lower-upper}
use Rattle.dt_aggfn.proofs.levels.Bounds.new.Goals.{then-lower-upper-via-else-lower-upper+then-step-le0}
use Rattle.dt_aggfn.proofs.levels.Bounds.new.Goals as goal

pub invariant_of-result : goal.invariant_of-result
invariant_of-result c =
    let upper : ℤ = to_z w64 (of_z w64 c.args.upper) in
    let lower : ℤ = to_z w64 (of_z w64 c.args.lower) in
    let step : ℤ = to_z w64 (of_z w64 c.args.step) in
    let width : to_z w128 (of_z w128 (to_z w128 (of_z w128 c.from.result) -ℤ to_z w128 (of_z w128 c.from-2.result)))
    ≡ upper -ℤ lower = omega (arith, ints) in
    let each : to_z w128 (of_z w128 c.from-each.result) ≡ step = omega (arith, ints) in
    let most : to_z w128 (of_z w128 c.from-3.result) ≡ pos 512 = omega (arith, ints) in
    let rising : int_lt lower upper ≡ true = grind (arith, ints) in
    let forward : int_lt (pos 0) step ≡ true = grind (arith, ints) in
    let wide : int_lt (pos 0) (upper -ℤ lower) ≡ true = grind (arith, ints) in
    let fits : mag (upper -ℤ lower) < 2 ^ 127 = omega (arith, ints) in
    let rest = rw (width, each) at c.if-width-each-ne0.false in
    let same = same_quotient (upper -ℤ lower) step wide forward fits in
    let few = rw (width, each, most, same) at c.if-width-each.false in
    record {
      right = record {
        rising = rising;
        forward = forward;
        even = no_rest (upper -ℤ lower) step fits rest;
        few = not_above (int_div (upper -ℤ lower) step) few;
      };
    }

pub returns-then-lower-upper-clause-value : goal.returns-then-lower-upper-clause-value
returns-then-lower-upper-clause-value c =
    no_bounds_of c.args.lower c.args.upper c.args.step
    (λ right.
    let rising = right.rising in
    let forward = right.forward in
    elim c.then-lower-upper.branch [
      | then-lower-upper-via-then-lower-upper w ↦ (let h = w.if-lower-upper.true in grind (arith, ints))
      | then-lower-upper-via-else-lower-upper+then-step-le0 w ↦ (let h = w.if-step-le0.true in grind (arith, ints))
    ])

pub returns-then-width-each-ne0-clause-value : goal.returns-then-width-each-ne0-clause-value
returns-then-width-each-ne0-clause-value c =
    let upper : ℤ = c.args.upper in
    let lower : ℤ = c.args.lower in
    let width : to_z w128 (of_z w128 (to_z w128 (of_z w128 c.from.result) -ℤ to_z w128 (of_z w128 c.from-2.result)))
    ≡ upper -ℤ lower = omega (arith, ints) in
    let each : to_z w128 (of_z w128 c.from-each.result) ≡ c.args.step = omega (arith, ints) in
    let rest = rw (width, each) at c.if-width-each-ne0.true in
    no_bounds_of lower upper c.args.step (λ right. rest (some_rest (upper -ℤ lower) c.args.step right.even))

-- more levels than there may be
too_many : (c : goal.Then-width-each) → AreBounds c.args.lower c.args.upper c.args.step → ⊥
too_many c right =
    let upper : ℤ = c.args.upper in
    let lower : ℤ = c.args.lower in
    let step : ℤ = c.args.step in
    let width : to_z w128 (of_z w128 (to_z w128 (of_z w128 c.from.result) -ℤ to_z w128 (of_z w128 c.from-2.result)))
    ≡ upper -ℤ lower = omega (arith, ints) in
    let each : to_z w128 (of_z w128 c.from-each.result) ≡ step = omega (arith, ints) in
    let most : to_z w128 (of_z w128 c.from-3.result) ≡ pos 512 = omega (arith, ints) in
    let rising = right.rising in
    let wide : int_lt (pos 0) (upper -ℤ lower) ≡ true = grind (arith, ints) in
    let fits : mag (upper -ℤ lower) < 2 ^ 127 = omega (arith, ints) in
    let same = same_quotient (upper -ℤ lower) step wide right.forward fits in
    let many = rw (width, each, most, same) at c.if-width-each.true in
    above (int_div (upper -ℤ lower) step) many right.few

pub returns-then-width-each-clause-none : goal.returns-then-width-each-clause-none
returns-then-width-each-clause-none c = too_many c

pub returns-then-width-each-clause-value : goal.returns-then-width-each-clause-value
returns-then-width-each-clause-value c =
    no_bounds_of c.args.lower c.args.upper c.args.step (too_many c)

pub returns-clause-value : goal.returns-clause-value
returns-clause-value c =
    some_bounds_of c.args.lower c.args.upper c.args.step _ (to_z-of_z w64 c.args.lower c.ranges.lower)
    (to_z-of_z w64 c.args.upper c.ranges.upper) (to_z-of_z w64 c.args.step c.ranges.step)
