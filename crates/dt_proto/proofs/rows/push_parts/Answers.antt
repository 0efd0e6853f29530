-- What is to be shown of `push_parts`.
use Rattle.dt_proto.specs.Rows.{part_text}
use Rattle.dt_proto.proofs.Joined.{joined_added}
use Rattle.dt_proto.proofs.rows.push_parts.Goals as goal

pub returns : goal.returns
returns c =
    joined_added _ part_text c.args.line.now.items c.push_part.new.line.items c.push_more_parts.new.line.items
    c.in-Some.first.now c.in-Some.more.now c.args.parts.now c.in-Some.ensures.cases.0
    c.in_ok-push_part.ensures c.in_ok-push_more_parts.ensures
