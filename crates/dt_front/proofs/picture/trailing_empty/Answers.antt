-- What is to be shown of `trailing_empty`.
use Rattle.std.proofs.Common.{◌≡◌, ◌-◌, ◌<◌, nat_lt, true, length, sym, ap, ◌∙◌, reverse, arith, rules}
use Rattle.std.specs.List.{position_or_len}
use Rattle.std.proofs.lemmas.List.{get_or_default}
use Rattle.dt_front.specs.Picture.{is_counted}
use Rattle.dt_front.specs.PictureForms.{form_of_picture_row}
use Rattle.dt_front.specs.declared.picture.PictureRow.{PictureRow}
use Rattle.dt_front.proofs.Rows.{last_place_is, map-reverse, position_or_len-map}
use Rattle.dt_front.proofs.picture.trailing_empty.Goals as goal

pub returns-then-rows-back-gt0-clause-same : goal.returns-then-rows-back-gt0-clause-same
returns-then-rows-back-gt0-clause-same c =
    let rows = c.args.rows.now in
    let back = c.loop-back.back in
    let row = c.index-rows-rows.result in
    let place = length rows - 1 - back in
    let inside : place < length rows = omega (arith, c.loop-back-test.true) in
    let counted : nat_lt 0 row.count ≡ true = search rules in
    let read = λ (d : PictureRow). ap (λ r. nat_lt 0 r.count) (get_or_default rows place d row inside ∙ sym c.index-rows-rows.is) ∙ counted in
    last_place_is (λ row. nat_lt 0 row.count) rows back (omega (arith, c.loop-back-test.true)) c.loop-back.invariant (λ d _. read d)
    ∙ sym (position_or_len-map is_counted form_of_picture_row (reverse rows))
    ∙ ap (position_or_len is_counted) (map-reverse form_of_picture_row rows)

pub returns-clause-same : goal.returns-clause-same
returns-clause-same c =
    let rows = c.args.rows.now in
    let all : length rows ≡ c.loop-back.back = omega (arith, c.loop-back-test.false, c.loop-back.auto.back-end) in
    all ∙ last_place_is (λ row. nat_lt 0 row.count) rows c.loop-back.back (omega (arith, all)) c.loop-back.invariant
    (λ d inside. absurd (omega (arith, inside, all)))
    ∙ sym (position_or_len-map is_counted form_of_picture_row (reverse rows))
    ∙ ap (position_or_len is_counted) (map-reverse form_of_picture_row rows)
