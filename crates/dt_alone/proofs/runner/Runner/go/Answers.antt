-- Tracing begins.
use Rattle.std.proofs.Common.{map, refl, sym, ap, ◌∙◌, subst}
use Rattle.std.specs.Option.{option_copied}
use Rattle.dt_alone.proofs.Replying.{early, go_done, some_room}
use Rattle.dt_life.specs.declared.limits.TheConstants.{BEGIN}
use Rattle.dt_lang.specs.Program.{form_of_clause}
use Rattle.dt_alone.specs.Kept.{IsKeptAt}
use Rattle.dt_life.specs.Forms.{form_of_options}
use Rattle.dt_life.specs.Life.{ecbs_in, has_room, set_up, tracing_steps}
use Rattle.dt_life.specs.Options.{OptionsForm}
use Rattle.dt_life.specs.TracingSteps.{steps_since}
use Rattle.dt_life.specs.Placed.{AreEcbs}
use Rattle.dt_life.specs.Takings.{began, own_process}
use Rattle.dt_life.specs.laws.Contexts.{own_is}
use Rattle.dt_alone.proofs.runner.Runner.go.Goals as goal

pub returns : goal.returns
returns c = λ account life k.
    let registry = c.args.machine.now.registry in
    let s = set_up account registry life in
    let off = early account registry life c.args.self.now k (sym c.is_inactive.ensures ∙ c.if-not-is_inactive.false) in
    let are = subst (AreEcbs s.clauses (ecbs_in account registry s)) (sym c.deref-2.ensures.value) k.has.within.ecbs in
    let room = some_room c.end_reserve.result (has_room account registry s) c.is_none.result _
    (c.end_reserve.ensures.reserve account registry s k.has.within.options
    (ap (map form_of_clause) c.deref.ensures.value ∙ k.has.within.clauses) are)
    c.is_none.ensures c.if-is_none.false in
    let m = own_is account registry BEGIN c.unwrap.result.now c.own_process-process.result c.own_firing-firing.result
    (sym (ap option_copied c.unwrap.ensures) ∙ c.probe.ensures.value)
    (c.own_process-process.ensures ∙ ap own_process k.has.within.same_account) c.own_firing-firing.ensures in
    let fresh = subst (λ (options : OptionsForm). IsKeptAt options (tracing_steps account c.args.machine.now.registry s) c.in_ok-kept.kept)
    k.has.within.options
    (subst (λ events. IsKeptAt (form_of_options c.args.self.now.options)
    (steps_since account c.args.machine.now.registry s.options (ecbs_in account c.args.machine.now.registry s) events) c.in_ok-kept.kept)
    (sym (k.has.within.idle off)) c.in_ok-kept.ensures.stands) in
    go_done account registry life c.args.self.now k _ off room
    (c.in_ok-happen.ensures.happens account s began k.has.within (c.in_ok-kept.ensures.cpus ∙ c.cpus.ensures.value, fresh) tt m refl
    k.has.within.seen)
    c.in_ok-happen.ensures.lines
