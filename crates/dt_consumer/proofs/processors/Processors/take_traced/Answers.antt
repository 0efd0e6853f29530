-- A clause was taken that traces a variable alone.
use Rattle.std.proofs.Common.{◌≡◌, ◌+◌, ◌∷◌, ◌++◌, ℕ, [], true, false, sym, ap, ap₂, ◌∙◌, subst, arith}
use Rattle.std.specs.Global.{Vec}
use Rattle.dt_aggstore.specs.declared.store.AggStore.{AggStore}
use Rattle.dt_ecb.specs.Forms.{form_of_ecb}
use Rattle.dt_expr.specs.Scene.{SceneForm, scene_of}
use Rattle.dt_locals.specs.LocalsAreAt.{LocalsAreAt}
use Rattle.dt_machine.specs.Context.{form_of_context}
use Rattle.dt_record.specs.Taking.{ClauseTaken, only_records, taking}
use Rattle.dt_record.specs.laws.BareRecords.{record_assigns, record_draws, record_outcome}
use Rattle.dt_record.specs.laws.Traced.{traced_records}
use Rattle.dt_speculation.specs.IsAt.{SpecsAt}
use Rattle.dt_life.specs.Following.{taking_by}
use Rattle.dt_life.specs.Stores.{given_after}
use Rattle.dt_life.specs.Takings.{scene_at}
use Rattle.dt_life.specs.TracingSteps.{takes, locals_of, past_of_steps, specs_of}
use Rattle.dt_life.specs.Uses.{AreGiven}
use Rattle.dt_life.specs.laws.Stores.{gave_nothing}
use Rattle.dt_consumer.specs.Counts.{COMES_BY_ONE}
use Rattle.dt_consumer.specs.Keeps.{tally_after}
use Rattle.dt_consumer.specs.Tallies.{changed_at, with_outcome}
use Rattle.dt_consumer.proofs.BareTakings.{bare_exit, bare_known, bare_locals, bare_specs, bare_tally, record_gives}
use Rattle.dt_consumer.proofs.Leaving.{known_last, known_tally}
use Rattle.dt_consumer.proofs.Tallying.{at_most_more, retallied}
use Rattle.dt_consumer.proofs.TracedEcbs.{is_traced}
use Rattle.dt_consumer.proofs.processors.Processors.take_traced.Goals as goal

pub returns-clause-after : goal.returns-clause-after
returns-clause-after c = λ account registry s steps kept of are none.
    let own = c.args.self.now in
    let m = form_of_context c.args.context.now in
    let ecb = form_of_ecb s.clauses kept in
    let known = is_traced s.clauses kept c.args.traced of in
    let h : only_records ecb.clause.statements ≡ true = traced_records ecb.clause c.args.traced.variable known.variable in
    let cpu = m.firing.cpu in
    let past = past_of_steps s.options steps in
    let t = taking_by false s.options steps m s.clauses kept in
    let bare = record_outcome ecb.epid t.scene t.past ecb.clause h in
    let assigns = record_assigns ecb.epid t.scene t.past ecb.clause h in
    let draws = record_draws ecb.epid t.scene t.past ecb.clause h in
    let tallies = known_tally account registry s steps false m ecb in
    let at : scene_of c.scene_at-scene.result ≡ scene_at m kept.epid = c.scene_at-scene.ensures ∙ ap (scene_at m) (sym known.epid) in
    let same : taking c.args.traced.epid (scene_of c.scene_at-scene.result) past ecb.clause ≡ t.taken =
    ap₂ (λ (epid : ℕ) (scene : SceneForm). taking epid scene past ecb.clause) (sym known.epid) at in
    record {
      each = retallied _ (tally_after account registry s (steps ++ takes t ∷ [])) c.trace_one.new.self.all.items
          (λ j. ap (λ (k : ClauseTaken). changed_at tallies cpu (with_outcome false k.outcome (tallies cpu)) j) same
          ∙ bare_tally account registry s steps false m ecb bare assigns draws j)
          (c.trace_one.ensures.recorded ecb.clause past tallies known.variable
          (known_last account registry s steps false m ecb (λ e. none) cpu)
          (bare_known account registry s steps false m ecb bare assigns draws own.all.items are.each));
      stores = subst (λ (v : Vec AggStore). AreGiven (given_after s (steps ++ takes t ∷ [])) v.items)
          (sym c.trace_one.ensures.stores)
          (gave_nothing s steps own.stores.items are.stores t (record_gives account registry s steps false m ecb h));
      locals = subst (LocalsAreAt (locals_of s.options (steps ++ takes t ∷ []))) (sym c.trace_one.ensures.locals)
          (bare_locals account registry s steps false m ecb bare assigns draws own.locals are.locals);
      specs = subst (SpecsAt (specs_of s.options (steps ++ takes t ∷ []))) (sym c.trace_one.ensures.specs)
          (bare_specs account registry s steps false m ecb bare assigns draws own.specs are.specs);
    }

pub returns-clause-exit : goal.returns-clause-exit
returns-clause-exit c = λ account registry s steps kept of.
    let m = form_of_context c.args.context.now in
    let ecb = form_of_ecb s.clauses kept in
    let known = is_traced s.clauses kept c.args.traced of in
    let h : only_records ecb.clause.statements ≡ true = traced_records ecb.clause c.args.traced.variable known.variable in
    let t = taking_by false s.options steps m s.clauses kept in
    bare_exit account registry s steps false m ecb (record_outcome ecb.epid t.scene t.past ecb.clause h)
    (record_assigns ecb.epid t.scene t.past ecb.clause h) (record_draws ecb.epid t.scene t.past ecb.clause h)

pub returns-clause-counts : goal.returns-clause-counts
returns-clause-counts c = λ n h.
    at_most_more (n + 1) (n + COMES_BY_ONE) c.trace_one.new.self.all.items (omega arith) (c.trace_one.ensures.counts n h)
