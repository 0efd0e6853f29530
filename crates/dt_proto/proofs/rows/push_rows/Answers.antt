-- What is to be shown of `push_rows`.
use Rattle.std.proofs.Common.{map, ap}
use Rattle.dt_aggstore.specs.EntryNames.{form_of_row}
use Rattle.dt_proto.specs.Rows.{row_text}
use Rattle.dt_proto.proofs.Joined.{joined_added}
use Rattle.dt_proto.proofs.rows.push_rows.Goals as goal

pub returns : goal.returns
returns c =
    joined_added _ row_text c.args.line.now.items c.push_row.new.line.items c.push_more_rows.new.line.items
    (form_of_row c.in-Some.first.now) (map form_of_row c.in-Some.more.now) (map form_of_row c.args.rows.now) (ap (map form_of_row) c.in-Some.ensures.cases.0)
    c.in_ok-push_row.ensures c.in_ok-push_more_rows.ensures
