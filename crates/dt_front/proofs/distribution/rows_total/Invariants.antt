-- The total of the rows so far.
use Rattle.std.proofs.Common.{◌≡◌, map, take}
use Rattle.dt_front.specs.Picture.{total_of}
use Rattle.dt_front.specs.PictureForms.{form_of_picture_row}
use Rattle.dt_front.proofs.distribution.rows_total.Given as goal

abbrev pub invariant-loop-row : goal.invariant-loop-row
invariant-loop-row l = l.total ≡ total_of (map form_of_picture_row (take l.row-index l.rows))
