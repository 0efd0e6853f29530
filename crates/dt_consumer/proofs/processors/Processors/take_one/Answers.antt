-- A clause was taken that does nothing but record, or nothing but give to aggregations.
use Rattle.std.proofs.Common.{◌≡◌, ◌+◌, ◌∷◌, ◌++◌, [], true, get_or, refl, sym, ap, ap₂, ◌∙◌, subst, arith}
use Rattle.std.proofs.lemmas.Grind.{common_steps}
use Rattle.std.specs.Global.{Vec}
use Rattle.dt_aggstore.specs.declared.store.AggStore.{AggStore}
use Rattle.dt_ecb.specs.Forms.{form_of_ecb}
use Rattle.dt_expr.specs.Scene.{SceneForm, scene_of}
use Rattle.dt_lang.specs.Program.{ClauseForm, form_of_clause}
use Rattle.dt_locals.specs.LocalsAreAt.{LocalsAreAt}
use Rattle.dt_machine.specs.Context.{form_of_context}
use Rattle.dt_record.specs.Taking.{ClauseTaken, only_gives, only_records, taking}
use Rattle.dt_record.specs.laws.BareRecords.{record_assigns, record_draws, record_outcome}
use Rattle.dt_record.specs.laws.BareValues.{values_assign, values_draw, values_outcome}
use Rattle.dt_speculation.specs.IsAt.{SpecsAt}
use Rattle.dt_life.specs.Following.{taking_by}
use Rattle.dt_life.specs.Life.{shapes_in}
use Rattle.dt_life.specs.Stores.{given_after}
use Rattle.dt_life.specs.TracingSteps.{takes, locals_of, past_of_steps, specs_of}
use Rattle.dt_life.specs.Uses.{AreGiven}
use Rattle.dt_life.specs.laws.Stores.{gave_nothing}
use Rattle.dt_consumer.specs.Counts.{COMES_BY_ONE}
use Rattle.dt_consumer.specs.Keeps.{tally_after}
use Rattle.dt_consumer.specs.Tallies.{changed_at, with_outcome}
use Rattle.dt_consumer.specs.Uses.{form_of_uses, given_of, with_given}
use Rattle.dt_consumer.proofs.BareTakings.{bare_exit, bare_known, bare_locals, bare_specs, bare_tally, record_gives}
use Rattle.dt_consumer.proofs.Giving.{clause_is, gave_with, uses_give}
use Rattle.dt_consumer.proofs.Leaving.{known_last, known_tally}
use Rattle.dt_consumer.proofs.Tallying.{at_most_more, retallied}
use Rattle.dt_consumer.proofs.processors.Processors.take_one.Goals.{else-not-outline-via-then-not-outline+else-not-outline-2, else-not-outline-via-else-not-outline}
use Rattle.dt_consumer.proofs.processors.Processors.take_one.Goals as goal

pub returns-then-outline-clause-after : goal.returns-then-outline-clause-after
returns-then-outline-clause-after c = λ account registry s steps enabled are none.
    let own = c.args.self.now in
    let m = form_of_context c.args.context.now in
    let in_end = c.args.in_end in
    let clauses = c.args.enabled.now.clauses.now in
    let clause = c.index-enabled-ecb.result in
    let ecb = form_of_ecb s.clauses c.args.ecb in
    let is : form_of_clause (get_or clauses c.args.ecb.clause clause) ≡ ecb.clause =
    ap form_of_clause (sym c.index-enabled-ecb.is)
    ∙ clause_is clauses s.clauses c.args.ecb.clause clause enabled.clauses c.requires.placed c.index-enabled-ecb.is in
    let known_bare : only_records (form_of_clause (get_or clauses c.args.ecb.clause clause)).statements ≡ true =
    grind (arith, common_steps, c.if-outline.true, c.args.enabled.now.known) in
    let h : only_records ecb.clause.statements ≡ true = ap (λ (k : ClauseForm). only_records k.statements) (sym is) ∙ known_bare in
    let cpu = m.firing.cpu in
    let past = past_of_steps s.options steps in
    let t = taking_by in_end s.options steps m s.clauses c.args.ecb in
    let bare = record_outcome ecb.epid t.scene t.past ecb.clause h in
    let assigns = record_assigns ecb.epid t.scene t.past ecb.clause h in
    let draws = record_draws ecb.epid t.scene t.past ecb.clause h in
    let known = known_tally account registry s steps in_end m ecb in
    let same : taking c.args.ecb.epid (scene_of c.scene_at-scene.result) past
    (form_of_clause (get_or clauses c.args.ecb.clause clause)) ≡ t.taken =
    ap₂ (λ (scene : SceneForm) (k : ClauseForm). taking c.args.ecb.epid scene past k) c.scene_at-scene.ensures is in
    record {
      each = retallied _ (tally_after account registry s (steps ++ takes t ∷ [])) c.record_one.new.self.all.items
          (λ j. ap (λ (k : ClauseTaken). changed_at known cpu (with_outcome in_end k.outcome (known cpu)) j) same
          ∙ bare_tally account registry s steps in_end m ecb bare assigns draws j)
          (c.record_one.ensures.recorded past known are.locals (known_last account registry s steps in_end m ecb none cpu)
          (bare_known account registry s steps in_end m ecb bare assigns draws own.all.items are.each));
      stores = subst (λ (v : Vec AggStore). AreGiven (given_after s (steps ++ takes t ∷ [])) v.items)
          (sym c.record_one.ensures.stores)
          (gave_nothing s steps own.stores.items are.stores t (record_gives account registry s steps in_end m ecb h));
      locals = subst (LocalsAreAt (locals_of s.options (steps ++ takes t ∷ []))) (sym c.record_one.ensures.locals)
          (bare_locals account registry s steps in_end m ecb bare assigns draws own.locals are.locals);
      specs = subst (SpecsAt (specs_of s.options (steps ++ takes t ∷ []))) (sym c.record_one.ensures.specs)
          (bare_specs account registry s steps in_end m ecb bare assigns draws own.specs are.specs);
    }

pub returns-then-outline-clause-exit : goal.returns-then-outline-clause-exit
returns-then-outline-clause-exit c = λ account registry s steps enabled are.
    let m = form_of_context c.args.context.now in
    let in_end = c.args.in_end in
    let clauses = c.args.enabled.now.clauses.now in
    let clause = c.index-enabled-ecb.result in
    let ecb = form_of_ecb s.clauses c.args.ecb in
    let is : form_of_clause (get_or clauses c.args.ecb.clause clause) ≡ ecb.clause =
    ap form_of_clause (sym c.index-enabled-ecb.is)
    ∙ clause_is clauses s.clauses c.args.ecb.clause clause enabled.clauses c.requires.placed c.index-enabled-ecb.is in
    let known_bare : only_records (form_of_clause (get_or clauses c.args.ecb.clause clause)).statements ≡ true =
    grind (arith, common_steps, c.if-outline.true, c.args.enabled.now.known) in
    let h : only_records ecb.clause.statements ≡ true = ap (λ (k : ClauseForm). only_records k.statements) (sym is) ∙ known_bare in
    let t = taking_by in_end s.options steps m s.clauses c.args.ecb in
    sym (bare_exit account registry s steps in_end m ecb (record_outcome ecb.epid t.scene t.past ecb.clause h)
    (record_assigns ecb.epid t.scene t.past ecb.clause h) (record_draws ecb.epid t.scene t.past ecb.clause h))

pub returns-then-outline-clause-counts : goal.returns-then-outline-clause-counts
returns-then-outline-clause-counts c = λ n h.
    at_most_more (n + 1) (n + COMES_BY_ONE) c.record_one.new.self.all.items (omega arith) (c.record_one.ensures.counts n h)

pub give_one-requires-clause-bare : goal.give_one-requires-clause-bare
give_one-requires-clause-bare c =
    elim c.else-not-outline.branch [
      | else-not-outline-via-then-not-outline+else-not-outline-2 w ↦
          grind (arith, common_steps, w.if-not-outline-2.false, c.args.enabled.now.known)
      | else-not-outline-via-else-not-outline w ↦
          grind (arith, common_steps, w.if-not-outline.false, c.if-outline.false)
    ]

pub returns-else-outline-clause-after : goal.returns-else-outline-clause-after
returns-else-outline-clause-after c = λ account registry s steps enabled are none.
    let own = c.args.self.now in
    let m = form_of_context c.args.context.now in
    let in_end = c.args.in_end in
    let clauses = c.args.enabled.now.clauses.now in
    let clause = c.index-enabled-ecb.result in
    let uses = c.index-enabled-ecb-else-outline.result in
    let ecb = form_of_ecb s.clauses c.args.ecb in
    let is : form_of_clause (get_or clauses c.args.ecb.clause clause) ≡ ecb.clause =
    ap form_of_clause (sym c.index-enabled-ecb.is)
    ∙ clause_is clauses s.clauses c.args.ecb.clause clause enabled.clauses c.requires.placed c.index-enabled-ecb.is in
    let known_bare : only_gives (form_of_clause (get_or clauses c.args.ecb.clause clause)).statements ≡ true =
    elim c.else-not-outline.branch [
      | else-not-outline-via-then-not-outline+else-not-outline-2 w ↦
          grind (arith, common_steps, w.if-not-outline-2.false, c.args.enabled.now.known)
      | else-not-outline-via-else-not-outline w ↦
          grind (arith, common_steps, w.if-not-outline.false, c.if-outline.false)
    ] in
    let h : only_gives ecb.clause.statements ≡ true = ap (λ (k : ClauseForm). only_gives k.statements) (sym is) ∙ known_bare in
    let cpu = m.firing.cpu in
    let past = past_of_steps s.options steps in
    let t = taking_by in_end s.options steps m s.clauses c.args.ecb in
    let bare = values_outcome ecb.epid t.scene t.past ecb.clause h in
    let assigns = values_assign ecb.epid t.scene t.past ecb.clause h in
    let draws = values_draw ecb.epid t.scene t.past ecb.clause h in
    let known = known_tally account registry s steps in_end m ecb in
    let same : taking c.args.ecb.epid (scene_of c.scene_at-scene.result) past
    (form_of_clause (get_or clauses c.args.ecb.clause clause)) ≡ t.taken =
    ap₂ (λ (scene : SceneForm) (k : ClauseForm). taking c.args.ecb.epid scene past k) c.scene_at-scene.ensures is in
    let given = form_of_uses (get_or c.args.enabled.now.uses.now c.args.ecb.clause uses) in
    record {
      each = retallied _ (tally_after account registry s (steps ++ takes t ∷ [])) c.give_one.new.self.all.items
          (λ j. ap (λ (k : ClauseTaken). changed_at known cpu (with_outcome in_end k.outcome (known cpu)) j) same
          ∙ bare_tally account registry s steps in_end m ecb bare assigns draws j)
          (c.give_one.ensures.counted c.args.ecb.epid in_end past known are.locals
          (bare_known account registry s steps in_end m ecb bare assigns draws own.all.items are.each));
      stores = gave_with s steps t c.give_one.new.self.stores.items (given_of given t.taken.outcome)
          (ap (λ u. given_of (form_of_uses u) t.taken.outcome) (sym c.index-enabled-ecb-else-outline.is)
          ∙ uses_give (shapes_in s) clauses s.clauses c.args.enabled.now.uses.now c.args.ecb.clause clause uses t enabled.clauses
          c.requires.placed c.index-enabled-ecb.is c.index-enabled-ecb-else-outline.is enabled.uses refl)
          (subst (λ (k : ClauseTaken). AreGiven (with_given (given_after s steps) cpu (given_of given k.outcome))
          c.give_one.new.self.stores.items) same
          (c.give_one.ensures.given c.args.ecb.epid past (given_after s steps) are.locals are.stores));
      locals = subst (LocalsAreAt (locals_of s.options (steps ++ takes t ∷ []))) (sym c.give_one.ensures.locals)
          (bare_locals account registry s steps in_end m ecb bare assigns draws own.locals are.locals);
      specs = subst (SpecsAt (specs_of s.options (steps ++ takes t ∷ []))) (sym c.give_one.ensures.specs)
          (bare_specs account registry s steps in_end m ecb bare assigns draws own.specs are.specs);
    }

pub returns-else-outline-clause-exit : goal.returns-else-outline-clause-exit
returns-else-outline-clause-exit c = λ account registry s steps enabled are.
    let m = form_of_context c.args.context.now in
    let in_end = c.args.in_end in
    let clauses = c.args.enabled.now.clauses.now in
    let clause = c.index-enabled-ecb.result in
    let ecb = form_of_ecb s.clauses c.args.ecb in
    let is : form_of_clause (get_or clauses c.args.ecb.clause clause) ≡ ecb.clause =
    ap form_of_clause (sym c.index-enabled-ecb.is)
    ∙ clause_is clauses s.clauses c.args.ecb.clause clause enabled.clauses c.requires.placed c.index-enabled-ecb.is in
    let known_bare : only_gives (form_of_clause (get_or clauses c.args.ecb.clause clause)).statements ≡ true =
    elim c.else-not-outline.branch [
      | else-not-outline-via-then-not-outline+else-not-outline-2 w ↦
          grind (arith, common_steps, w.if-not-outline-2.false, c.args.enabled.now.known)
      | else-not-outline-via-else-not-outline w ↦
          grind (arith, common_steps, w.if-not-outline.false, c.if-outline.false)
    ] in
    let h : only_gives ecb.clause.statements ≡ true = ap (λ (k : ClauseForm). only_gives k.statements) (sym is) ∙ known_bare in
    let t = taking_by in_end s.options steps m s.clauses c.args.ecb in
    sym (bare_exit account registry s steps in_end m ecb (values_outcome ecb.epid t.scene t.past ecb.clause h)
    (values_assign ecb.epid t.scene t.past ecb.clause h) (values_draw ecb.epid t.scene t.past ecb.clause h))

pub returns-else-outline-clause-counts : goal.returns-else-outline-clause-counts
returns-else-outline-clause-counts c = λ n h.
    at_most_more (n + 1) (n + COMES_BY_ONE) c.give_one.new.self.all.items (omega arith) (c.give_one.ensures.counts n h)
