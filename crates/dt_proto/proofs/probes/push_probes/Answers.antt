-- What is to be shown of `push_probes`.
use Rattle.dt_proto.specs.Reply.{probe_text}
use Rattle.dt_proto.proofs.Joined.{joined_added}
use Rattle.dt_proto.proofs.probes.push_probes.Goals as goal

pub returns : goal.returns
returns c =
    joined_added _ probe_text c.args.line.now.items c.push_probe.new.line.items c.push_more_probes.new.line.items
    c.in-Some.first.now c.in-Some.more.now c.args.probes.now c.in-Some.ensures.cases.0
    c.in_ok-push_probe.ensures c.in_ok-push_more_probes.ensures
