-- One ECB was taken.
use Rattle.std.proofs.Common.{◌≡◌, ◌<◌, ◌≤◌, ◌+◌, ◌-◌, ◌∷◌, ◌++◌, [], cond, get_or, map, length, refl, sym, ap, ap₂, ◌∙◌, subst, arith}
use Rattle.std.specs.Option.{option_map_or}
use Rattle.std.specs.Prelude.{option_and_then}
use Rattle.std.specs.Global.{Vec}
use Rattle.std.proofs.Math.ListN.{length-set}
use Rattle.std.proofs.lemmas.List.{length-map}
use Rattle.dt_consumer.specs.declared.uses.Uses.{Uses}
use Rattle.dt_aggstore.specs.IsAt.{IsAt}
use Rattle.dt_aggstore.specs.declared.store.AggStore.{AggStore}
use Rattle.dt_buffer.specs.declared.limits.TheConstants.{DROPS_LIMIT}
use Rattle.dt_ecb.specs.Forms.{form_of_ecb}
use Rattle.dt_expr.specs.Scene.{SceneForm, scene_of}
use Rattle.dt_lang.specs.Program.{ClauseForm, form_of_clause, form_of_statement}
use Rattle.dt_locals.specs.History.{locals_then}
use Rattle.dt_locals.specs.LocalsAreAt.{LocalsAreAt}
use Rattle.dt_machine.specs.Context.{form_of_context}
use Rattle.dt_program.specs.declared.clause.TheConstants.{STATEMENTS_MAX}
use Rattle.dt_record.specs.Forms.{form_of_end, form_of_taken}
use Rattle.dt_record.specs.Taking.{ClauseTaken, TakenForm, abandoned, leaves, left_in, passed_over, past_with, taking}
use Rattle.dt_record.specs.TracingAt.{TracingAt}
use Rattle.dt_speculation.specs.History.{specs_then}
use Rattle.dt_speculation.specs.IsAt.{SpecsAt}
use Rattle.dt_life.specs.Aggregations.{split_by, uses_by}
use Rattle.dt_life.specs.Following.{taking_by}
use Rattle.dt_life.specs.Life.{shapes_in}
use Rattle.dt_life.specs.Stores.{given_after}
use Rattle.dt_life.specs.Takings.{assignments_of, draws_of, freed_by, parts_out}
use Rattle.dt_life.specs.TracingSteps.{takes, locals_of, past_of_steps, specs_of}
use Rattle.dt_life.specs.Uses.{AreGiven, given_then}
use Rattle.dt_life.specs.laws.Stores.{gave_nothing, gave_there}
use Rattle.dt_consumer.specs.Counts.{AtMost, COMES_BY_ONE}
use Rattle.dt_consumer.specs.Keeps.{tally_after}
use Rattle.dt_consumer.specs.Tallies.{changed_at, with_left, with_records}
use Rattle.dt_life.specs.Takings.{puts_in}
use Rattle.dt_consumer.specs.Uses.{form_of_uses}
use Rattle.dt_consumer.proofs.Giving.{clause_is, gave_left}
use Rattle.dt_consumer.proofs.Leaving.{abandoned_tally, known_last, known_set, known_tally, left_last, left_tally, locals_more}
use Rattle.dt_consumer.proofs.Leaving.{passed_tally, specs_drawn, specs_left, with_error}
use Rattle.dt_consumer.proofs.Tallying.{at_most_more, at_most_set, retallied, tallied_changed}
use Rattle.dt_consumer.proofs.processors.Processors.take_whole.Goals as goal

pub returns-in-Ok-true-clause-after : goal.returns-in-Ok-true-clause-after
returns-in-Ok-true-clause-after c = λ account registry s steps enabled are none.
    let own = c.args.self.now in
    let m = form_of_context c.args.context.now in
    let cpu = m.firing.cpu in
    let in_end = c.args.in_end in
    let clauses = c.args.enabled.now.clauses.now in
    let clause = c.index-enabled-ecb.result in
    let ecb = form_of_ecb s.clauses c.args.ecb in
    let t = taking_by in_end s.options steps m s.clauses c.args.ecb in
    let past = past_of_steps s.options steps in
    let known = c.take_known-taken.new in
    let at : TracingAt past own.locals own.specs = record { variables = are.locals; speculations = are.specs } in
    let same : taking c.args.ecb.epid (scene_of c.scene_at-scene.result) past
    (form_of_clause (get_or clauses c.args.ecb.clause clause)) ≡ t.taken =
    ap₂ (λ (scene : SceneForm) (k : ClauseForm). taking c.args.ecb.epid scene past k) c.scene_at-scene.ensures
    (ap form_of_clause (sym c.index-enabled-ecb.is)
    ∙ clause_is clauses s.clauses c.args.ecb.clause clause enabled.clauses c.requires.placed c.index-enabled-ecb.is) in
    let form = form_of_taken known.self in
    let comes : t.taken.outcome ≡ leaves form =
    sym (ap (λ (k : ClauseTaken). k.outcome) same) ∙ c.in-Ok-true.ensures.left past at
    ∙ ap (λ b. cond b (leaves form) passed_over) c.in-Ok-true.field-0-test in
    let stands = subst (λ (k : ClauseTaken). TracingAt (past_with past k.effects) known.locals known.specs) same
    (c.take_known-taken.ensures.stands past at) in
    let counted = known_set account registry s steps in_end m ecb own.all.items c.index_mut.result.now c.count_dropped.new.self
    c.drops-dropped.result c.drops.result c.saturating_sub.result
    (c.drops-dropped.ensures.shows (locals_of s.options steps) are.locals)
    (c.drops.ensures.shows (locals_then (locals_of s.options steps) (assignments_of t)) stands.variables)
    (omega (arith, c.saturating_sub.ensures)) (omega (arith, c.requires.there)) c.index_mut.ensures.value
    c.count_dropped.ensures.buffer c.count_dropped.ensures.errors c.count_dropped.ensures.dyndrops
    c.count_dropped.ensures.specdrops are.each in
    let drawn = specs_then (specs_of s.options steps) (draws_of t) in
    let put = c.put_record.ensures.put drawn (known_tally account registry s steps in_end m ecb) stands.speculations
    (known_last account registry s steps in_end m ecb none cpu) counted in
    let specs = c.put_record.ensures.specs drawn stands.speculations in
    let ends : c.deref-in-Ok-true.result.now ≡ known.self.ends.items = c.deref-in-Ok-true.ensures.0 in
    let tallies = changed_at (known_tally account registry s steps in_end m ecb) cpu
    (with_left in_end cpu drawn form (known_tally account registry s steps in_end m ecb cpu)) in
    let ended = c.end_speculations.ensures.ended (specs_then drawn (puts_in cpu form)) tallies specs
    (left_last account registry s steps in_end m ecb form drawn none) put in
    record {
      each = retallied (λ j. with_records in_end
          (parts_out j (specs_then drawn (puts_in cpu form)) (map form_of_end c.deref-in-Ok-true.result.now)) (tallies j))
          (tally_after account registry s (steps ++ takes t ∷ [])) c.end_speculations.new.all.items
          (λ j. ap (λ es. with_records in_end (parts_out j (specs_then drawn (puts_in cpu form)) (map form_of_end es))
          (tallies j)) ends
          ∙ left_tally account registry s steps in_end m ecb form comes j)
          ended;
      stores = gave_there s steps c.put_record.new.self.stores.items
          (subst (λ (v : Vec AggStore). AreGiven (given_after s steps) v.items) (sym c.put_record.ensures.stores) are.stores)
          t c.index_mut-in-Ok-true.result.now c.give.new.store
          (omega (arith, own.each, c.requires.there, ap (λ (v : Vec AggStore). length v.items) c.put_record.ensures.stores))
          c.index_mut-in-Ok-true.ensures.value
          (λ h. gave_left (shapes_in s) clauses s.clauses c.args.enabled.now.uses.now c.args.ecb.clause clause
          c.index-enabled-ecb-in-Ok-true.result t form (given_after s steps cpu) c.give.new.store enabled.clauses
          c.requires.placed c.index-enabled-ecb.is c.index-enabled-ecb-in-Ok-true.is enabled.uses refl comes
          (subst (λ (v : Uses). IsAt (given_then (given_after s steps cpu) (split_by (form_of_uses v) form.values)) c.give.new.store)
          (sym c.index-enabled-ecb-in-Ok-true.is)
          (subst (λ vs. IsAt (given_then (given_after s steps cpu) (split_by (form_of_uses
          (get_or c.args.enabled.now.uses.now c.args.ecb.clause c.index-enabled-ecb-in-Ok-true.result)) vs)) c.give.new.store)
          c.deref.ensures.0
          (c.give.ensures.stands (given_after s steps cpu) h))));
      locals = subst (LocalsAreAt (locals_of s.options (steps ++ takes t ∷ []))) (sym c.put_record.ensures.locals)
          (locals_more account registry s steps in_end m ecb known.locals stands.variables);
      specs = specs_left account registry s steps in_end m ecb form comes c.end_speculations.new.specs
          (subst (λ es. SpecsAt (specs_then (specs_then drawn (puts_in cpu form)) (freed_by (map form_of_end es)))
          c.end_speculations.new.specs) ends (c.end_speculations.ensures.freed _ specs));
    }

pub returns-in-Ok-true-clause-exit : goal.returns-in-Ok-true-clause-exit
returns-in-Ok-true-clause-exit c = λ account registry s steps enabled are.
    let own = c.args.self.now in
    let m = form_of_context c.args.context.now in
    let cpu = m.firing.cpu in
    let in_end = c.args.in_end in
    let clauses = c.args.enabled.now.clauses.now in
    let clause = c.index-enabled-ecb.result in
    let ecb = form_of_ecb s.clauses c.args.ecb in
    let t = taking_by in_end s.options steps m s.clauses c.args.ecb in
    let past = past_of_steps s.options steps in
    let known = c.take_known-taken.new in
    let at : TracingAt past own.locals own.specs = record { variables = are.locals; speculations = are.specs } in
    let same : taking c.args.ecb.epid (scene_of c.scene_at-scene.result) past
    (form_of_clause (get_or clauses c.args.ecb.clause clause)) ≡ t.taken =
    ap₂ (λ (scene : SceneForm) (k : ClauseForm). taking c.args.ecb.epid scene past k) c.scene_at-scene.ensures
    (ap form_of_clause (sym c.index-enabled-ecb.is)
    ∙ clause_is clauses s.clauses c.args.ecb.clause clause enabled.clauses c.requires.placed c.index-enabled-ecb.is) in
    let form = form_of_taken known.self in
    let comes : t.taken.outcome ≡ leaves form =
    sym (ap (λ (k : ClauseTaken). k.outcome) same) ∙ c.in-Ok-true.ensures.left past at
    ∙ ap (λ b. cond b (leaves form) passed_over) c.in-Ok-true.field-0-test in
    sym (ap (λ outcome. option_and_then (λ (f : TakenForm). f.exit) (left_in outcome)) comes)

pub returns-in-Ok-false-clause-after : goal.returns-in-Ok-false-clause-after
returns-in-Ok-false-clause-after c = λ account registry s steps enabled are none.
    let own = c.args.self.now in
    let m = form_of_context c.args.context.now in
    let cpu = m.firing.cpu in
    let in_end = c.args.in_end in
    let clauses = c.args.enabled.now.clauses.now in
    let clause = c.index-enabled-ecb.result in
    let ecb = form_of_ecb s.clauses c.args.ecb in
    let t = taking_by in_end s.options steps m s.clauses c.args.ecb in
    let past = past_of_steps s.options steps in
    let known = c.take_known-taken.new in
    let at : TracingAt past own.locals own.specs = record { variables = are.locals; speculations = are.specs } in
    let same : taking c.args.ecb.epid (scene_of c.scene_at-scene.result) past
    (form_of_clause (get_or clauses c.args.ecb.clause clause)) ≡ t.taken =
    ap₂ (λ (scene : SceneForm) (k : ClauseForm). taking c.args.ecb.epid scene past k) c.scene_at-scene.ensures
    (ap form_of_clause (sym c.index-enabled-ecb.is)
    ∙ clause_is clauses s.clauses c.args.ecb.clause clause enabled.clauses c.requires.placed c.index-enabled-ecb.is) in
    let comes : t.taken.outcome ≡ passed_over =
    sym (ap (λ (k : ClauseTaken). k.outcome) same) ∙ c.in-Ok-false.ensures.left past at
    ∙ ap (λ b. cond b (leaves (form_of_taken known.self)) passed_over) c.in-Ok-false.field-0-test in
    let stands = subst (λ (k : ClauseTaken). TracingAt (past_with past k.effects) known.locals known.specs) same
    (c.take_known-taken.ensures.stands past at) in
    let counted = known_set account registry s steps in_end m ecb own.all.items c.index_mut.result.now c.count_dropped.new.self
    c.drops-dropped.result c.drops.result c.saturating_sub.result
    (c.drops-dropped.ensures.shows (locals_of s.options steps) are.locals)
    (c.drops.ensures.shows (locals_then (locals_of s.options steps) (assignments_of t)) stands.variables)
    (omega (arith, c.saturating_sub.ensures)) (omega (arith, c.requires.there)) c.index_mut.ensures.value
    c.count_dropped.ensures.buffer c.count_dropped.ensures.errors c.count_dropped.ensures.dyndrops
    c.count_dropped.ensures.specdrops are.each in
    record {
      each = retallied (known_tally account registry s steps in_end m ecb)
          (tally_after account registry s (steps ++ takes t ∷ [])) _
          (passed_tally account registry s steps in_end m ecb comes) counted;
      stores = gave_nothing s steps own.stores.items are.stores t
          (ap (λ outcome. option_map_or
          (λ (form : TakenForm). split_by (uses_by (shapes_in s) ecb.clause.statements) form.values) (left_in outcome) [])
          comes);
      locals = locals_more account registry s steps in_end m ecb known.locals stands.variables;
      specs = specs_drawn account registry s steps in_end m ecb (ap left_in comes) known.specs stands.speculations;
    }

pub returns-in-Ok-false-clause-exit : goal.returns-in-Ok-false-clause-exit
returns-in-Ok-false-clause-exit c = λ account registry s steps enabled are.
    let own = c.args.self.now in
    let m = form_of_context c.args.context.now in
    let cpu = m.firing.cpu in
    let in_end = c.args.in_end in
    let clauses = c.args.enabled.now.clauses.now in
    let clause = c.index-enabled-ecb.result in
    let ecb = form_of_ecb s.clauses c.args.ecb in
    let t = taking_by in_end s.options steps m s.clauses c.args.ecb in
    let past = past_of_steps s.options steps in
    let known = c.take_known-taken.new in
    let at : TracingAt past own.locals own.specs = record { variables = are.locals; speculations = are.specs } in
    let same : taking c.args.ecb.epid (scene_of c.scene_at-scene.result) past
    (form_of_clause (get_or clauses c.args.ecb.clause clause)) ≡ t.taken =
    ap₂ (λ (scene : SceneForm) (k : ClauseForm). taking c.args.ecb.epid scene past k) c.scene_at-scene.ensures
    (ap form_of_clause (sym c.index-enabled-ecb.is)
    ∙ clause_is clauses s.clauses c.args.ecb.clause clause enabled.clauses c.requires.placed c.index-enabled-ecb.is) in
    let comes : t.taken.outcome ≡ passed_over =
    sym (ap (λ (k : ClauseTaken). k.outcome) same) ∙ c.in-Ok-false.ensures.left past at
    ∙ ap (λ b. cond b (leaves (form_of_taken known.self)) passed_over) c.in-Ok-false.field-0-test in
    sym (ap (λ outcome. option_and_then (λ (f : TakenForm). f.exit) (left_in outcome)) comes)

pub returns-in-Err-DivZero-clause-after : goal.returns-in-Err-DivZero-clause-after
returns-in-Err-DivZero-clause-after c = λ account registry s steps enabled are none.
    let own = c.args.self.now in
    let m = form_of_context c.args.context.now in
    let cpu = m.firing.cpu in
    let in_end = c.args.in_end in
    let clauses = c.args.enabled.now.clauses.now in
    let clause = c.index-enabled-ecb.result in
    let ecb = form_of_ecb s.clauses c.args.ecb in
    let t = taking_by in_end s.options steps m s.clauses c.args.ecb in
    let past = past_of_steps s.options steps in
    let known = c.take_known-taken.new in
    let at : TracingAt past own.locals own.specs = record { variables = are.locals; speculations = are.specs } in
    let same : taking c.args.ecb.epid (scene_of c.scene_at-scene.result) past
    (form_of_clause (get_or clauses c.args.ecb.clause clause)) ≡ t.taken =
    ap₂ (λ (scene : SceneForm) (k : ClauseForm). taking c.args.ecb.epid scene past k) c.scene_at-scene.ensures
    (ap form_of_clause (sym c.index-enabled-ecb.is)
    ∙ clause_is clauses s.clauses c.args.ecb.clause clause enabled.clauses c.requires.placed c.index-enabled-ecb.is) in
    let comes : t.taken.outcome ≡ abandoned =
    sym (ap (λ (k : ClauseTaken). k.outcome) same) ∙ c.in-Err-DivZero.ensures.left past at in
    let stands = subst (λ (k : ClauseTaken). TracingAt (past_with past k.effects) known.locals known.specs) same
    (c.take_known-taken.ensures.stands past at) in
    let counted = known_set account registry s steps in_end m ecb own.all.items c.index_mut.result.now c.count_dropped.new.self
    c.drops-dropped.result c.drops.result c.saturating_sub.result
    (c.drops-dropped.ensures.shows (locals_of s.options steps) are.locals)
    (c.drops.ensures.shows (locals_then (locals_of s.options steps) (assignments_of t)) stands.variables)
    (omega (arith, c.saturating_sub.ensures)) (omega (arith, c.requires.there)) c.index_mut.ensures.value
    c.count_dropped.ensures.buffer c.count_dropped.ensures.errors c.count_dropped.ensures.dyndrops
    c.count_dropped.ensures.specdrops are.each in
    record {
      each = retallied _ (tally_after account registry s (steps ++ takes t ∷ [])) _
          (abandoned_tally account registry s steps in_end m ecb comes)
          (tallied_changed (known_tally account registry s steps in_end m ecb) cpu
          (with_error account registry s steps in_end m ecb (known_tally account registry s steps in_end m ecb cpu)) _
          c.index_mut-in-Err-DivZero.result.now _
          (subst (λ n. cpu < n) (sym (length-set own.all.items cpu _)) (omega (arith, c.requires.there)))
          c.index_mut-in-Err-DivZero.ensures.value
          (λ k. record {
            stands = k.stands;
            counted = ap (λ n. n + 1) k.counted;
            dynamic_dropped = k.dynamic_dropped;
            speculative_dropped = k.speculative_dropped;
          }) counted);
      stores = gave_nothing s steps own.stores.items are.stores t
          (ap (λ outcome. option_map_or
          (λ (form : TakenForm). split_by (uses_by (shapes_in s) ecb.clause.statements) form.values) (left_in outcome) [])
          comes);
      locals = locals_more account registry s steps in_end m ecb known.locals stands.variables;
      specs = specs_drawn account registry s steps in_end m ecb (ap left_in comes) known.specs stands.speculations;
    }

pub returns-in-Err-DivZero-clause-exit : goal.returns-in-Err-DivZero-clause-exit
returns-in-Err-DivZero-clause-exit c = λ account registry s steps enabled are.
    let own = c.args.self.now in
    let m = form_of_context c.args.context.now in
    let cpu = m.firing.cpu in
    let in_end = c.args.in_end in
    let clauses = c.args.enabled.now.clauses.now in
    let clause = c.index-enabled-ecb.result in
    let ecb = form_of_ecb s.clauses c.args.ecb in
    let t = taking_by in_end s.options steps m s.clauses c.args.ecb in
    let past = past_of_steps s.options steps in
    let known = c.take_known-taken.new in
    let at : TracingAt past own.locals own.specs = record { variables = are.locals; speculations = are.specs } in
    let same : taking c.args.ecb.epid (scene_of c.scene_at-scene.result) past
    (form_of_clause (get_or clauses c.args.ecb.clause clause)) ≡ t.taken =
    ap₂ (λ (scene : SceneForm) (k : ClauseForm). taking c.args.ecb.epid scene past k) c.scene_at-scene.ensures
    (ap form_of_clause (sym c.index-enabled-ecb.is)
    ∙ clause_is clauses s.clauses c.args.ecb.clause clause enabled.clauses c.requires.placed c.index-enabled-ecb.is) in
    let comes : t.taken.outcome ≡ abandoned =
    sym (ap (λ (k : ClauseTaken). k.outcome) same) ∙ c.in-Err-DivZero.ensures.left past at in
    sym (ap (λ outcome. option_and_then (λ (f : TakenForm). f.exit) (left_in outcome)) comes)

pub count_dropped-requires : goal.count_dropped-requires
count_dropped-requires c =
    let own = c.args.self.now.all.items in
    let cpu = c.args.context.now.firing.now.cpu in
    let clause = get_or c.args.enabled.now.clauses.now c.args.ecb.clause c.index-enabled-ecb.result in
    let few : c.saturating_sub.result ≤ STATEMENTS_MAX =
    omega (
      arith,
      c.saturating_sub.ensures,
      c.drops.ensures.counted,
      c.drops-dropped.ensures.counted,
      c.take_known-taken.ensures.dropped,
      length-map clause.statements.items form_of_statement,
      clause.few,
    ) in
    let at = subst (AtMost (DROPS_LIMIT - COMES_BY_ONE)) (sym c.index_mut.ensures.value)
    (c.requires.counts cpu c.index_mut.result.now (omega (arith, c.requires.there))) in
    omega (arith, at.2, few)

pub end_speculations-requires-clause-counts : goal.end_speculations-requires-clause-counts
end_speculations-requires-clause-counts c =
    let own = c.args.self.now.all.items in
    let cpu = c.args.context.now.firing.now.cpu in
    let clause = get_or c.args.enabled.now.clauses.now c.args.ecb.clause c.index-enabled-ecb.result in
    let few : c.saturating_sub.result ≤ STATEMENTS_MAX =
    omega (
      arith,
      c.saturating_sub.ensures,
      c.drops.ensures.counted,
      c.drops-dropped.ensures.counted,
      c.take_known-taken.ensures.dropped,
      length-map clause.statements.items form_of_statement,
      clause.few,
    ) in
    let n = DROPS_LIMIT - COMES_BY_ONE in
    at_most_more ((n + STATEMENTS_MAX) + 1) (DROPS_LIMIT - STATEMENTS_MAX) c.put_record.new.self.all.items (omega arith)
    (c.put_record.ensures.counts (n + STATEMENTS_MAX)
    (at_most_set n (n + STATEMENTS_MAX) own cpu c.index_mut.result.now c.count_dropped.new.self (omega arith)
    (omega (arith, c.requires.there)) c.index_mut.ensures.value
    (λ at. (
      omega (arith, at.0, few, c.count_dropped.ensures.counts.0),
      omega (arith, at.1, few, c.count_dropped.ensures.counts.1),
      omega (arith, at.2, few, c.count_dropped.ensures.counts.2),
      omega (arith, at.3, few, c.count_dropped.ensures.counts.3),
    )) c.requires.counts))

pub returns-in-Ok-true-clause-counts : goal.returns-in-Ok-true-clause-counts
returns-in-Ok-true-clause-counts c = λ n h.
    let own = c.args.self.now.all.items in
    let cpu = c.args.context.now.firing.now.cpu in
    let clause = get_or c.args.enabled.now.clauses.now c.args.ecb.clause c.index-enabled-ecb.result in
    let few : c.saturating_sub.result ≤ STATEMENTS_MAX =
    omega (
      arith,
      c.saturating_sub.ensures,
      c.drops.ensures.counted,
      c.drops-dropped.ensures.counted,
      c.take_known-taken.ensures.dropped,
      length-map clause.statements.items form_of_statement,
      clause.few,
    ) in
    at_most_more (((n + STATEMENTS_MAX) + 1) + STATEMENTS_MAX) (n + COMES_BY_ONE) c.end_speculations.new.all.items (omega arith)
    (c.end_speculations.ensures.counts ((n + STATEMENTS_MAX) + 1)
    (c.put_record.ensures.counts (n + STATEMENTS_MAX)
    (at_most_set n (n + STATEMENTS_MAX) own cpu c.index_mut.result.now c.count_dropped.new.self (omega arith)
    (omega (arith, c.requires.there)) c.index_mut.ensures.value
    (λ at. (
      omega (arith, at.0, few, c.count_dropped.ensures.counts.0),
      omega (arith, at.1, few, c.count_dropped.ensures.counts.1),
      omega (arith, at.2, few, c.count_dropped.ensures.counts.2),
      omega (arith, at.3, few, c.count_dropped.ensures.counts.3),
    )) h)))

pub returns-in-Err-DivZero-clause-counts : goal.returns-in-Err-DivZero-clause-counts
returns-in-Err-DivZero-clause-counts c = λ n h.
    let own = c.args.self.now.all.items in
    let cpu = c.args.context.now.firing.now.cpu in
    let clause = get_or c.args.enabled.now.clauses.now c.args.ecb.clause c.index-enabled-ecb.result in
    let few : c.saturating_sub.result ≤ STATEMENTS_MAX =
    omega (
      arith,
      c.saturating_sub.ensures,
      c.drops.ensures.counted,
      c.drops-dropped.ensures.counted,
      c.take_known-taken.ensures.dropped,
      length-map clause.statements.items form_of_statement,
      clause.few,
    ) in
    at_most_set (n + STATEMENTS_MAX) (n + COMES_BY_ONE) _ cpu c.index_mut-in-Err-DivZero.result.now _ (omega arith)
    (subst (λ k. cpu < k) (sym (length-set own cpu _)) (omega (arith, c.requires.there)))
    c.index_mut-in-Err-DivZero.ensures.value
    (λ at. (omega (arith, at.0), omega (arith, at.1), omega (arith, at.2), omega (arith, at.3)))
    (at_most_set n (n + STATEMENTS_MAX) own cpu c.index_mut.result.now c.count_dropped.new.self (omega arith)
    (omega (arith, c.requires.there)) c.index_mut.ensures.value
    (λ at. (
      omega (arith, at.0, few, c.count_dropped.ensures.counts.0),
      omega (arith, at.1, few, c.count_dropped.ensures.counts.1),
      omega (arith, at.2, few, c.count_dropped.ensures.counts.2),
      omega (arith, at.3, few, c.count_dropped.ensures.counts.3),
    )) h)
