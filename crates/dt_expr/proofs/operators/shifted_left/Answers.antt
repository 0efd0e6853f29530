-- What the proof of `shifted_left` is told at its goals.
use Rattle.std.proofs.Common.{◌%◌, ◌∙◌, ap, ℤ, FitsSigned}
use Rattle.std.proofs.lemmas.Int.{to_z-of_z}
use Rattle.std.specs.Int.{w64, int_shl}
use Rattle.dt_expr.specs.Operators.{shift_count}
use Rattle.dt_expr.proofs.Wrapping.{shift_is}
use Rattle.dt_expr.proofs.operators.shifted_left.Goals as goal

pub returns : goal.returns
returns c =
    let fits : FitsSigned w64 c.wrapping_shl.result = record { sfits = c.wrapping_shl.type_inv } in
    let k = c.shift_count.result in
    to_z-of_z w64 c.wrapping_shl.result fits
    ∙ c.wrapping_shl.ensures
    ∙ ap (λ (z : ℤ). int_shl w64 z (k % 64)) (to_z-of_z w64 c.args.number c.ranges.number)
    ∙ shift_is c.args.number c.args.count k c.ranges.number c.shift_count.ensures.bound
    (c.shift_count.ensures.value ∙ ap shift_count (to_z-of_z w64 c.args.count c.ranges.count))
