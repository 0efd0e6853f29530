-- ECBs were taken, and tracing goes on or ends.
use Rattle.std.proofs.Common.{Some, false, refl, sym, ap, ◌∙◌}
use Rattle.dt_machine.specs.Context.{form_of_context}
use Rattle.dt_alone.proofs.Running.{ends_at, firing_is, goes_on, has_since, never_none, never_some, own_brought, took_brought, took_exit}
use Rattle.dt_alone.proofs.Running.{took_kept}
use Rattle.dt_life.specs.Life.{phase_of, tracing_steps}
use Rattle.dt_life.specs.Options.{OptionsForm}
use Rattle.dt_life.specs.declared.phase.Phase.TheVariants as phases
use Rattle.dt_alone.proofs.runner.Runner.happen.Goals as goal
use Rattle.dt_alone.proofs.runner.Runner.happen.Goals.{in-Some, in-None}

pub returns-in_ok-fire_end-clause-happens : goal.returns-in_ok-fire_end-clause-happens
returns-in_ok-fire_end-clause-happens c = λ account s event h keeps fires at active counts.
    let registry = c.args.machine.now.registry in
    let old = c.args.self.now in
    let m = form_of_context c.args.context.now in
    let own = firing_is event fires in
    let steps = tracing_steps account registry s in
    let before = own_brought account registry s (phase_of s) old h c.args.kept.cpus keeps.0 in
    let took = c.in_ok-exit.ensures.taken s.options (tracing_steps account c.args.machine.now.registry s) keeps.1 before in
    let told = took_brought account registry s (phase_of s) old h event m own.0 at false own.1 c.args.kept.cpus keeps.0
    c.take.new.happened.items took.1 in
    let kept = took_kept account registry s (phase_of s) old h event m own.0 at false own.1 c.args.kept.cpus keeps.0
    c.take.new.kept (c.take.ensures.cpus ∙ keeps.0) took.0 in
    let exits = took_exit account registry s event m old h fires at c.in_ok-exit.exit
    (c.in_ok-exit.ensures.exit refl s.options (tracing_steps account c.args.machine.now.registry s) keeps.1 before) in
    elim c.match-end.branch [
      | in-Some w ↦
          let e = w.in-Some.end in
          ends_at account registry s event c.in_ok-exit.exit c.after-end.result old.options.histsize
          c.args.seen exits
          c.after-end.ensures (ap (λ (o : OptionsForm). o.histsize) h.options) counts e _ w.in-Some.is
          (c.in_ok-fire_end.ensures.ends account _ e
          (has_since account registry s _ (phase_of s) (phases.Stopped (Some e)) old _ h refl refl refl w.self-is refl
          counts told) kept)
      | in-None w ↦ absurd (never_some c.match-end.end c.is_some.result c.is_some.ensures c.if-is_some.true
          (w.end-is ∙ w.in-None.is))
    ]

pub returns-else-is_some-clause-happens : goal.returns-else-is_some-clause-happens
returns-else-is_some-clause-happens c = λ account s event h keeps fires at active counts.
    let registry = c.args.machine.now.registry in
    let old = c.args.self.now in
    let m = form_of_context c.args.context.now in
    let own = firing_is event fires in
    let steps = tracing_steps account registry s in
    let before = own_brought account registry s (phase_of s) old h c.args.kept.cpus keeps.0 in
    let took = c.in_ok-exit.ensures.taken s.options (tracing_steps account c.args.machine.now.registry s) keeps.1 before in
    let told = took_brought account registry s (phase_of s) old h event m own.0 at false own.1 c.args.kept.cpus keeps.0
    c.take.new.happened.items took.1 in
    let kept = took_kept account registry s (phase_of s) old h event m own.0 at false own.1 c.args.kept.cpus keeps.0
    c.take.new.kept (c.take.ensures.cpus ∙ keeps.0) took.0 in
    let exits = took_exit account registry s event m old h fires at c.in_ok-exit.exit
    (c.in_ok-exit.ensures.exit refl s.options (tracing_steps account c.args.machine.now.registry s) keeps.1 before) in
    elim c.match-end.branch [
      | in-Some w ↦ absurd (never_none c.match-end.end c.is_some.result w.in-Some.end c.is_some.ensures
          c.if-is_some.false w.end-is)
      | in-None w ↦
          goes_on account registry s event c.in_ok-exit.exit c.after-end.result old.options.histsize
          c.args.seen exits
          c.after-end.ensures (ap (λ (o : OptionsForm). o.histsize) h.options) counts phases.Active _ w.in-None.is
          (has_since account registry s _ (phase_of s) phases.Active old _ h refl refl refl w.self-is refl counts told)
          (sym active) (active, kept)
    ]
