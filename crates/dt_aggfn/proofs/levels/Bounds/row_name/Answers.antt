-- The names of the rows of an `lquantize`.
use Rattle.std.proofs.Common.{◌≡◌, ◌+◌, ◌-◌, ◌<◌, suc, ℤ, Some, ap, sym, ◌∙◌, arith, FitsSigned}
use Rattle.std.specs.Int.{w64}
use Rattle.std.proofs.lemmas.Int.{to_z-of_z}
use Rattle.dt_aggfn.specs.Rows.{levels_of, name_at, lquantize_rows}
use Rattle.dt_aggfn.proofs.LevelRowLemmas.{name_above, name_below}
use Rattle.dt_aggfn.proofs.levels.Bounds.row_name.Goals as goal

pub returns-then-index-eq0 : goal.returns-then-index-eq0
returns-then-index-eq0 c =
    sym (ap (name_at (lquantize_rows c.args.self)) c.if-index-eq0.true ∙ name_below c.args.self)

pub returns : goal.returns
returns c =
    let k = c.args.index - 1 in
    let next : suc k ≡ c.args.index = omega (arith, c.if-index-eq0.false) in
    let within : k < levels_of c.args.self + 1 = omega (arith, c.requires, c.if-index-eq0.false) in
    let fits : FitsSigned w64 c.level_from.result = record { sfits = c.level_from.type_inv } in
    ap (λ (z : ℤ). Some z) (to_z-of_z w64 c.level_from.result fits ∙ c.level_from.ensures)
    ∙ sym (name_above c.args.self k within)
    ∙ ap (name_at (lquantize_rows c.args.self)) next
