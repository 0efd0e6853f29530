-- The level that the value lies in.
use Rattle.std.proofs.Common.{rules, FitsSigned}
use Rattle.std.specs.Int.{w64}
use Rattle.std.proofs.lemmas.Int.{to_z-of_z}
use Rattle.dt_aggfn.proofs.LevelRowLemmas.{value_below, value_within, value_from_upper}
use Rattle.dt_aggfn.proofs.levels.Bounds.row_of.Goals as goal

pub returns-then-value-self : goal.returns-then-value-self
returns-then-value-self c =
    let v : FitsSigned w64 c.args.value = c.ranges.value in
    let l : FitsSigned w64 c.args.self.lower = search rules in
    value_below c.args.self c.args.value (simp to_z-of_z at c.if-value-self.true)

pub returns-then-value-self-2 : goal.returns-then-value-self-2
returns-then-value-self-2 c =
    let v : FitsSigned w64 c.args.value = c.ranges.value in
    let l : FitsSigned w64 c.args.self.lower = search rules in
    let u : FitsSigned w64 c.args.self.upper = search rules in
    let s : FitsSigned w64 c.args.self.step = search rules in
    let difference = simp to_z-of_z at c.abs_diff.ensures in
    let size = simp to_z-of_z at c.unsigned_abs.ensures.value in
    rw (difference, size)
    (value_within c.args.self c.args.value (simp to_z-of_z at c.if-value-self.false)
    (simp to_z-of_z at c.if-value-self-2.true))

pub returns-else-value-self-2 : goal.returns-else-value-self-2
returns-else-value-self-2 c =
    let v : FitsSigned w64 c.args.value = c.ranges.value in
    let l : FitsSigned w64 c.args.self.lower = search rules in
    let u : FitsSigned w64 c.args.self.upper = search rules in
    rw (c.levels.ensures.levels)
    (value_from_upper c.args.self c.args.value (simp to_z-of_z at c.if-value-self.false)
    (simp to_z-of_z at c.if-value-self-2.false))
