-- What is to be shown of `push_counts`.
use Rattle.std.proofs.Common.{map, ap}
use Rattle.dt_aggfn.specs.Answers.{form_of_counted_row}
use Rattle.dt_proto.specs.Rows.{counted_text}
use Rattle.dt_proto.proofs.Joined.{joined_added}
use Rattle.dt_proto.proofs.rows.push_counts.Goals as goal

pub returns : goal.returns
returns c =
    joined_added _ counted_text c.args.line.now.items c.push_count.new.line.items c.push_more_counts.new.line.items
    (form_of_counted_row c.in-Some.first.now) (map form_of_counted_row c.in-Some.more.now) (map form_of_counted_row c.args.rows.now) (ap (map form_of_counted_row) c.in-Some.ensures.cases.0)
    c.in_ok-push_count.ensures c.in_ok-push_more_counts.ensures
