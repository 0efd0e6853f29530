-- What is to be shown of `leading_empty`.
use Rattle.std.proofs.Common.{◌≡◌, ℕ, ◌<◌, nat_lt, true, false, length, get_or, sym, ◌∙◌, arith, rules}
use Rattle.dt_front.specs.Picture.{is_counted}
use Rattle.dt_front.specs.PictureForms.{form_of_picture_row}
use Rattle.dt_front.specs.declared.picture.PictureRow.{PictureRow}
use Rattle.dt_front.proofs.Rows.{first_place_is, position_or_len-map}
use Rattle.dt_front.proofs.picture.leading_empty.Goals as goal

pub returns-in-Some-clause-same : goal.returns-in-Some-clause-same
returns-in-Some-clause-same c =
    let rows = c.args.rows.now in
    let place = c.in-Some.place in
    let within : place < length rows = search rules in
    let before : (k : ℕ) (d : PictureRow) → k < place → nat_lt 0 (get_or rows k d).count ≡ false = search rules in
    let counted : (d : PictureRow) → nat_lt 0 (get_or rows place d).count ≡ true = search rules in
    first_place_is (λ row. nat_lt 0 row.count) rows place (omega (arith, within)) before (λ d _. counted d)
    ∙ sym (position_or_len-map is_counted form_of_picture_row rows)

pub returns-in-None-clause-same : goal.returns-in-None-clause-same
returns-in-None-clause-same c =
    let rows = c.args.rows.now in
    let before : (k : ℕ) (d : PictureRow) → k < length rows → nat_lt 0 (get_or rows k d).count ≡ false = search rules in
    first_place_is (λ row. nat_lt 0 row.count) rows (length rows) (omega arith) before (λ d past. absurd (omega (arith, past)))
    ∙ sym (position_or_len-map is_counted form_of_picture_row rows)
