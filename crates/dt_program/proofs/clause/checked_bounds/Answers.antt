-- Which rule numbers break.
use mir.Syntax.{w128}
use Rattle.std.proofs.Common.{◌≡◌, ◌<◌, ◌^◌, ℤ, pos, ◌-ℤ◌, to_z, of_z, w64, arith, int_lt, true}
use Rattle.std.proofs.lemmas.Int.{ints, to_z-of_z}
use Rattle.std.specs.Int.Signed.{mag}
use Rattle.dt_program.proofs.LevelLemmas.{are_uneven, are_too_many}
use Rattle.dt_program.proofs.clause.checked_bounds.Goals as goal

pub returns-then-width-each-ne0-clause-fault : goal.returns-then-width-each-ne0-clause-fault
returns-then-width-each-ne0-clause-fault c =
    let upper : ℤ = c.args.upper in
    let lower : ℤ = c.args.lower in
    let step : ℤ = c.args.step in
    let width : to_z w128 (of_z w128 (to_z w128 (of_z w128 c.from.result) -ℤ to_z w128 (of_z w128 c.from-2.result)))
    ≡ upper -ℤ lower = omega (arith, ints) in
    let each : to_z w128 (of_z w128 c.from-each.result) ≡ step = omega (arith, ints) in
    let rising : int_lt lower upper ≡ true = grind (arith, ints) in
    let forward : int_lt (pos 0) step ≡ true = grind (arith, ints) in
    are_uneven lower upper step rising forward (rw (width, each) at c.if-width-each-ne0.true)

pub returns-in-None-clause-fault : goal.returns-in-None-clause-fault
returns-in-None-clause-fault c =
    let upper : ℤ = c.args.upper in
    let lower : ℤ = c.args.lower in
    let step : ℤ = c.args.step in
    let width : to_z w128 (of_z w128 (to_z w128 (of_z w128 c.from.result) -ℤ to_z w128 (of_z w128 c.from-2.result)))
    ≡ upper -ℤ lower = omega (arith, ints) in
    let each : to_z w128 (of_z w128 c.from-each.result) ≡ step = omega (arith, ints) in
    let rising : int_lt lower upper ≡ true = grind (arith, ints) in
    let forward : int_lt (pos 0) step ≡ true = grind (arith, ints) in
    let fits : mag (upper -ℤ lower) < 2 ^ 127 = omega (arith, ints) in
    let wrong = rw (
      to_z-of_z w64 lower c.ranges.lower,
      to_z-of_z w64 upper c.ranges.upper,
      to_z-of_z w64 step c.ranges.step,
    ) at c.in-None.ensures.none in
    are_too_many lower upper step rising forward fits (rw (width, each) at c.if-width-each-ne0.false) wrong
