-- What is to be shown of `rows_total`: where the next count doesn't fit, neither do those of all rows.
use Rattle.std.proofs.Common.{◌<◌, length, map, ap, sym, ◌∙◌, arith}
use Rattle.std.proofs.lemmas.List.{get_or-map, length-map, take-map}
use Rattle.std.proofs.lemmas.List.Sums.{sum_by_more_le}
use Rattle.dt_front.specs.Picture.{PictureRowForm, total_of}
use Rattle.dt_front.specs.PictureForms.{form_of_picture_row}
use Rattle.dt_front.proofs.distribution.rows_total.Goals as goal

pub returns-in-None : goal.returns-in-None
returns-in-None c =
    let rows = c.args.rows.now in
    let k = c.loop-row.row-index in
    let row = c.row-item.result in
    let within : k < length (map form_of_picture_row rows) = omega (arith, length-map rows form_of_picture_row, c.loop-row-test.true) in
    let more = sum_by_more_le (λ (r : PictureRowForm). r.count) (map form_of_picture_row rows) k (form_of_picture_row row) within in
    let same = ap (λ (r : PictureRowForm). r.count)
    (get_or-map form_of_picture_row rows k row (form_of_picture_row row) c.loop-row-test.true ∙ ap form_of_picture_row (sym c.row-item.is)) in
    let before = ap total_of (take-map form_of_picture_row k rows) in
    omega (arith, more, same, before, c.loop-row.invariant, c.in-None.ensures)
