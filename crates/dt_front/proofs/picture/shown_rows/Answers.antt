-- What is to be shown of `shown_rows`.
use Rattle.std.proofs.Common.{◌-◌, ap, ◌∙◌}
use Rattle.dt_front.specs.PictureForms.{form_of_picture_row}
use Rattle.dt_front.proofs.Rows.{shown_of_code}
use Rattle.dt_front.proofs.picture.shown_rows.Goals as goal

pub returns : goal.returns
returns c =
    shown_of_code form_of_picture_row c.args.rows.now c.saturating_sub.result c.saturating_sub-2.result
    (c.saturating_sub.ensures ∙ ap (λ n. n - 1) c.leading_empty.ensures.same)
    (c.saturating_sub-2.ensures ∙ ap (λ n. n - 1) c.trailing_empty.ensures.same)
