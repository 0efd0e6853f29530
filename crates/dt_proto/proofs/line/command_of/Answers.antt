-- What is to be shown of `command_of`.
use Rattle.std.proofs.Common.{◌∙◌, rules}
use Rattle.std.proofs.lemmas.Result.{IfOk-weaker, IfErr-weaker}
use Rattle.dt_proto.proofs.Requests.{requested-read, requested-unread}
use Rattle.dt_proto.proofs.line.command_of.Goals as goal

pub returns-in-Ok-clause-ok : goal.returns-in-Ok-clause-ok
returns-in-Ok-clause-ok c =
    IfOk-weaker c.requested_command.result _ _ (λ command is. requested-read _ _ c.in-Ok.ensures.ok.0
    c.in-Ok.ensures.ok.1 ∙ is) c.requested_command.ensures.ok

pub returns-in-Ok-clause-err : goal.returns-in-Ok-clause-err
returns-in-Ok-clause-err c =
    IfErr-weaker c.requested_command.result _ _ (λ refusal is other. requested-read _ _ c.in-Ok.ensures.ok.0
    c.in-Ok.ensures.ok.1 ∙ is other) c.requested_command.ensures.err

pub returns-in-Err-2-clause-err : goal.returns-in-Err-2-clause-err
returns-in-Err-2-clause-err c = λ _. requested-unread c.args.line.now (c.in-Err.ensures.err (search rules))
