-- What is to be shown of `push_rows_head`: its three parts come one after the other.
use Rattle.std.proofs.Common.{◌++◌, ◌∙◌, ap}
use Rattle.std.specs.Prelude.{codes}
use Rattle.dt_front.specs.Columns.{at_right}
use Rattle.dt_front.specs.Rows.{name_width}
use Rattle.dt_front.proofs.Added.{three_added}
use Rattle.dt_front.proofs.row.push_rows_head.Goals as goal

pub returns : goal.returns
returns c =
    let named = c.in_ok-push_right.ensures
    ∙ ap (λ width. c.extend_from_slice.new.self.items ++ at_right width (codes "FUNCTION:NAME")) c.name_width.ensures in
    three_added c.args.out.now.items c.extend_from_slice.new.self.items c.push_right.new.out.items c.push.new.self.items
    (codes "CPU     ID ") (at_right (name_width c.args.page) (codes "FUNCTION:NAME")) (codes "\n")
    c.in_ok-extend_from_slice.ensures.items named c.in_ok-push.ensures.items
