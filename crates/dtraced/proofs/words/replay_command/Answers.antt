-- The command that is built is the one of the definition.
use Rattle.std.proofs.Common.{rules, ap₂, ◌≡◌, ◌∙◌}
use Rattle.std.proofs.lemmas.Result.{IfOk-weaker}
use Rattle.clap.specs.Words.{rule_of, with_rule}
use Rattle.dtraced.specs.Words.{trail_option}
use Rattle.dtraced.proofs.words.replay_command.Goals as goal

pub returns-clause-form : goal.returns-clause-form
returns-clause-form c =
    let trail_is : rule_of c.action.result ≡ trail_option = search rules in
    IfOk-weaker c.arg-2.result _ _ (λ command h. h.shape (search rules)
    ∙ ap₂ with_rule (c.in_ok-arg.ensures.shape (search rules) ∙ ap₂ with_rule c.new.ensures.app c.file.ensures.rule) trail_is)
    c.arg-2.ensures
