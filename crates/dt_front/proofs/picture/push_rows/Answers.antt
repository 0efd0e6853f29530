-- What is to be shown of `push_rows`.
use Rattle.std.proofs.Common.{◌<◌, length, map, ap, sym, ◌∙◌, arith}
use Rattle.std.proofs.lemmas.List.{get_or-map, length-map}
use Rattle.dt_front.specs.PictureForms.{form_of_picture_row}
use Rattle.dt_front.proofs.picture.push_rows.Goals as goal

pub push_row-requires : goal.push_row-requires
push_row-requires c =
    let rows = c.args.rows.now in
    let k = c.loop-row.row-index in
    let row = c.row-item.result in
    let within : k < length (map form_of_picture_row rows) = omega (arith, length-map rows form_of_picture_row, c.loop-row-test.true) in
    let bound = c.requires.parts k (form_of_picture_row row) within in
    let same = ap (λ r. r.count) (get_or-map form_of_picture_row rows k row (form_of_picture_row row) c.loop-row-test.true)
    ∙ ap (λ r. r.count) (sym c.row-item.is) in
    omega (arith, bound, same)
