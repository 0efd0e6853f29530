-- What is to be shown of `push_picture`.
use Rattle.std.proofs.Common.{map}
use Rattle.std.proofs.lemmas.Result.{on_ok_weaker}
use Rattle.dt_front.specs.PictureForms.{form_of_picture_row}
use Rattle.dt_front.proofs.Rows.{picture_added}
use Rattle.dt_front.proofs.picture.push_picture.Goals as goal

pub returns : goal.returns
returns c =
    on_ok_weaker c.push_rows.result
    (λ body. picture_added c.args.page c.bar_width-longest.result c.args.out.now.items c.push_head.new.out.items c.push_rows.new.out.items
    (map form_of_picture_row c.args.rows.now) (map form_of_picture_row c.shown_rows.result.now) c.total_of-total.result
    c.bar_width-longest.ensures c.in_ok-push_head.ensures body c.total_of-total.ensures c.shown_rows.ensures)
    c.push_rows.ensures
