-- Tracing ends.
use Rattle.std.proofs.Common.{◌≡◌, Some, refl, sym, ◌∙◌}
use Rattle.std.proofs.lemmas.Bool.{false≢true}
use Rattle.dt_alone.proofs.Replying.{has_alike, stop_done}
use Rattle.dt_alone.proofs.Running.{kept_found}
use Rattle.dt_life.specs.Life.{phase_of, set_up}
use Rattle.dt_life.specs.declared.phase.End.TheVariants as ends
use Rattle.dt_life.specs.declared.phase.Phase.TheVariants as phases
use Rattle.dt_alone.proofs.runner.Runner.stop.Goals as goal
use Rattle.dt_alone.proofs.runner.Runner.stop.Goals.{in-Active, in_default}

pub returns : goal.returns
returns c = λ account life k.
    let registry = c.args.machine.now.registry in
    let s = set_up account registry life in
    let on : c.args.self.now.phase ≡ phases.Active = elim c.match-matches.branch [
      | in-Active w ↦ w.in-Active.is
      | in_default w ↦ absurd (false≢true (sym w.matches-is ∙ c.if-not-matches.false))
    ] in
    stop_done account registry life c.args.self.now k _ (sym k.has.within.standing ∙ on)
    (c.in_ok-fire_end.ensures.ends account s ends.Stop
    (has_alike account registry s (phase_of s) c.args.self.now _ k.has.within
    (record { account = refl; seen = refl; since = refl }) refl refl (phases.Stopped (Some ends.Stop)) refl (λ e. cc))
    (kept_found account registry s c.args.self.now.kept c.in-Some.kept (sym c.take.ensures.value ∙ c.in-Some.is) k.has.kept))
    c.in_ok-fire_end.ensures.lines
