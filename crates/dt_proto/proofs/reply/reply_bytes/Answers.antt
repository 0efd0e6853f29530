-- What is to be shown of `reply_bytes`.
use Rattle.std.proofs.Common.{◌≡◌, codes, ap, ◌∙◌}
use Rattle.dt_life.specs.Answer.{answer_of, refused}
use Rattle.dt_proto.specs.Reply.{reply_text}
use Rattle.dt_proto.proofs.Texts.{text-done}
use Rattle.dt_proto.proofs.reply.reply_bytes.Goals as goal

pub returns-in-Done : goal.returns-in-Done
returns-in-Done c =
    let text : reply_text (answer_of c.args.reply.now) ≡ codes "{\"ok\":true}\n" =
    ap (λ reply. reply_text (answer_of reply)) c.in-Done.is ∙ text-done in
    rw text c.from_slice.ensures.items

pub line_of-requires-in-Refused : goal.line_of-requires-in-Refused
line_of-requires-in-Refused c = (refused c.in-Refused.refusal, c.in_ok-refusal_value-in-Refused.ensures)
