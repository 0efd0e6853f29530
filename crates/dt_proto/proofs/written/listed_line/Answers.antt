-- What is to be shown of `listed_line`.
use Rattle.std.proofs.Common.{append_assoc}
use Rattle.dt_proto.proofs.ListedTexts.{text-listed}
use Rattle.dt_proto.proofs.written.listed_line.Goals as goal

pub returns : goal.returns
returns c =
    rw (c.in_ok-extend_from_slice.ensures.items, c.in_ok-push_probes.ensures, c.in_ok-line.ensures, text-listed c.args.probes.now)
    (simp append_assoc)
