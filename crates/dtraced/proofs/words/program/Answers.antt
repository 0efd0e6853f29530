-- The command that is built is the one of the definition.
use Rattle.std.proofs.Common.{ap, ap₂, ◌∙◌}
use Rattle.std.proofs.lemmas.Result.{IfOk-weaker}
use Rattle.clap.specs.Words.{App, with_subcommand}
use Rattle.dtraced.proofs.words.program.Goals as goal

pub returns : goal.returns
returns c =
    let top = λ (a : App). a.top in
    IfOk-weaker c.subcommand-4.result _ _ (λ command h. h.shape c.in_ok-send.ensures.local
    ∙ ap₂ with_subcommand (c.in_ok-subcommand-3.ensures.shape c.in_ok-serve.ensures.local
    ∙ ap₂ with_subcommand (c.in_ok-subcommand-2.ensures.shape c.in_ok-check.ensures.local
    ∙ ap₂ with_subcommand (c.in_ok-subcommand.ensures.shape c.in_ok-replay.ensures.local
    ∙ ap₂ with_subcommand c.new.ensures.app (ap top c.in_ok-replay.ensures.form)) (ap top c.in_ok-check.ensures.form))
    (ap top c.in_ok-serve.ensures.form)) (ap top c.in_ok-send.ensures.form))
    c.subcommand-4.ensures
