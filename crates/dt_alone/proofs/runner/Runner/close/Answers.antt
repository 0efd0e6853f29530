-- The session is closed.
use Rattle.std.proofs.Common.{◌≡◌, refl, sym, ap, ◌∙◌, subst}
use Rattle.dt_alone.specs.Runs.{Answers}
use Rattle.dt_alone.specs.declared.runner.Runner.{Runner}
use Rattle.dt_alone.proofs.Replying.{close_done, close_idle, goes_still}
use Rattle.dt_life.specs.Ask.{close}
use Rattle.dt_life.specs.Life.{is_stopped}
use Rattle.dt_life.specs.declared.reply.Reply.TheVariants.{Done}
use Rattle.dt_alone.proofs.runner.Runner.close.Goals as goal
use Rattle.dt_alone.proofs.runner.Runner.close.Goals.{in-Stopped, in_default, then-not-matches+in-None-1, then-not-matches+in-Some-1, else-not-matches}

pub returns : goal.returns
returns c = λ account registry life k.
    let old = c.args.self.now in
    let stopped : is_stopped c.args.self.now.phase ≡ c.match-matches.matches = elim c.match-matches.branch [
      | in-Stopped w ↦ ap is_stopped w.in-Stopped.is ∙ sym w.matches-is
      | in_default w ↦ goes_still c.args.self.now.phase w.in_default.not-Stopped ∙ sym w.matches-is
    ] in
    elim c.if-not-matches.branch [
      | then-not-matches+in-None-1 w ↦ subst (λ (new : Runner). Answers account registry life close Done new) (sym w.self-is)
          (close_done account registry life old k _ (stopped ∙ w.if-not-matches.true) refl refl refl refl refl refl refl refl)
      | then-not-matches+in-Some-1 w ↦ subst (λ (new : Runner). Answers account registry life close Done new) (sym w.self-is)
          (close_done account registry life old k _ (stopped ∙ w.if-not-matches.true) refl refl refl refl refl refl refl refl)
      | else-not-matches w ↦ subst (λ (new : Runner). Answers account registry life close Done new) (sym w.self-is)
          (close_idle account registry life old k (stopped ∙ w.if-not-matches.false))
    ]
