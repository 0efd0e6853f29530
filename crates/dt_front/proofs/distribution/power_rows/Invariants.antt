-- The rows so far.
use Rattle.std.proofs.Common.{◌≡◌, ◌-◌, ◌++◌, ◌∷◌, map}
use Rattle.std.specs.List.{range_with_len}
use Rattle.dt_aggfn.specs.Rows.{minus_power_row, power_row, zero_row}
use Rattle.dt_front.specs.CountForms.{form_of_row_count}
use Rattle.dt_front.specs.Distribution.{picture_rows, power_label}
use Rattle.dt_front.specs.PictureForms.{form_of_picture_row}
use Rattle.dt_front.proofs.distribution.power_rows.Given as goal

abbrev pub invariant-loop-back : goal.invariant-loop-back
invariant-loop-back l = map form_of_picture_row l.rows.items
    ≡ picture_rows power_label (map form_of_row_count l.counts) (map (λ k. minus_power_row (62 - k)) (range_with_len 0 l.back))

abbrev pub invariant-loop-exponent : goal.invariant-loop-exponent
invariant-loop-exponent l = map form_of_picture_row l.rows.items
    ≡ picture_rows power_label (map form_of_row_count l.counts)
    (map (λ k. minus_power_row (62 - k)) (range_with_len 0 63) ++ zero_row ∷ map power_row (range_with_len 0 l.exponent))
