-- The rows so far: the one below all levels, and those of the levels so far.
use Rattle.std.proofs.Common.{◌≡◌, ◌∷◌, map}
use Rattle.std.specs.List.{range_with_len}
use Rattle.dt_aggfn.specs.Rows.{below_row, level_row}
use Rattle.dt_front.specs.CountForms.{form_of_row_count}
use Rattle.dt_front.specs.Distribution.{level_label, picture_rows}
use Rattle.dt_front.specs.PictureForms.{form_of_picture_row}
use Rattle.dt_front.proofs.distribution.level_rows.Given as goal

abbrev pub invariant-loop-index : goal.invariant-loop-index
invariant-loop-index l = map form_of_picture_row l.rows.items
    ≡ picture_rows (level_label l.bounds) (map form_of_row_count l.counts) (below_row l.bounds ∷ map (level_row l.bounds) (range_with_len 0 l.index))
