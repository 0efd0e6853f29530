-- END's ECBs were taken.
use Rattle.std.proofs.Common.{Some, true, refl, sym, ap, ◌∙◌}
use Rattle.std.specs.Option.{option_copied}
use Rattle.dt_alone.proofs.Running.{has_since, own_brought, took_brought}
use Rattle.dt_life.specs.Life.{tracing_steps}
use Rattle.dt_life.specs.Takings.{ended, own_process}
use Rattle.dt_life.specs.declared.phase.Phase.TheVariants as phases
use Rattle.dt_life.specs.laws.Contexts.{own_is}
use Rattle.dt_life.specs.declared.limits.TheConstants.{END}
use Rattle.dt_alone.proofs.runner.Runner.fire_end.Goals as goal

pub returns-clause-ends : goal.returns-clause-ends
returns-clause-ends c = λ account s end h keeps.
    let registry = c.args.machine.now.registry in
    let old = c.args.self.now in
    let m = own_is account registry END c.unwrap.result.now c.own_process-process.result c.own_firing-firing.result
    (sym (ap option_copied c.unwrap.ensures) ∙ c.probe.ensures.value)
    (c.own_process-process.ensures ∙ ap own_process h.same_account) c.own_firing-firing.ensures in
    let phase = phases.Stopped (Some end) in
    let took = c.in_ok-_exit.ensures.taken s.options (tracing_steps account c.args.machine.now.registry s) keeps.1
    (own_brought account registry s (phases.Stopped (Some end)) old h c.args.kept.cpus keeps.0) in
    record {
      within = has_since account registry s _ phase phase old _ h refl refl refl h.standing refl h.seen
          (took_brought account registry s phase old h (ended end) _ tt m true refl c.args.kept.cpus keeps.0
          c.take.new.happened.items took.1);
      kept = λ e. cc;
    }
