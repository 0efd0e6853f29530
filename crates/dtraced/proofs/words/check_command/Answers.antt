-- The command that is built is the one of the definition.
use Rattle.std.proofs.Common.{rules, ap₂, ◌∙◌}
use Rattle.std.proofs.lemmas.Result.{IfOk-weaker}
use Rattle.clap.specs.Words.{with_rule}
use Rattle.dtraced.proofs.words.check_command.Goals as goal

pub returns-clause-form : goal.returns-clause-form
returns-clause-form c = IfOk-weaker c.arg-2.result _ _ (λ command h. h.shape (search rules)
    ∙ ap₂ with_rule (c.in_ok-arg.ensures.shape (search rules) ∙ ap₂ with_rule c.new.ensures.app c.file.ensures.rule) c.file-2.ensures.rule)
    c.arg-2.ensures
