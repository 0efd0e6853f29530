-- What came of a clause that does nothing but give to aggregations.
use Rattle.std.proofs.Common.{◌≡◌, ◌+◌, [], cond, refl, sym, ap, subst, ◌∙◌, arith}
use Rattle.std.specs.List.{slice_set}
use Rattle.dt_expr.specs.Scene.{scene_of}
use Rattle.dt_lang.specs.Program.{form_of_clause}
use Rattle.dt_life.specs.Aggregations.{split_by}
use Rattle.dt_life.specs.Uses.{AreGiven}
use Rattle.dt_record.specs.Taking.{abandoned, leaves, passed_over, bare_values, taking}
use Rattle.dt_consumer.specs.Tallies.{AreTallied, changed_at, with_outcome, with_records}
use Rattle.dt_consumer.specs.Uses.{form_of_uses, given_of, with_given}
use Rattle.dt_consumer.specs.declared.processor.Processor.{Processor}
use Rattle.dt_consumer.proofs.Giving.{given_here, given_nothing}
use Rattle.dt_consumer.proofs.Tallying.{no_records, tallied_changed, tallied_same}
use Rattle.dt_consumer.proofs.processors.Processors.give_one.Goals as goal

pub returns-in-Ok-true-clause-given : goal.returns-in-Ok-true-clause-given
returns-in-Ok-true-clause-given c = λ epid past pasts at h.
    let own = c.args.self.now in
    let cpu = c.args.cpu in
    let uses = form_of_uses c.args.uses.now in
    let comes : (taking epid (scene_of c.args.scene.now) past (form_of_clause c.args.clause.now)).outcome
    ≡ leaves (bare_values c.deref.result.now) =
    c.in-Ok-true.ensures.left epid past at
    ∙ ap (λ b. cond b (leaves (bare_values c.give_only.new.values.items)) passed_over) c.in-Ok-true.field-0-test
    ∙ ap (λ values. leaves (bare_values values)) (sym c.deref.ensures.0) in
    subst (λ o. AreGiven (with_given pasts cpu (given_of uses o)) (slice_set own.stores.items cpu c.give.new.store)) (sym comes)
    (given_here pasts own.stores.items cpu h (split_by uses c.deref.result.now) c.index_mut.result.now c.give.new.store
    (omega (arith, c.requires.there, own.each)) c.index_mut.ensures.value (c.give.ensures.stands (pasts cpu)))

pub returns-in-Ok-true-clause-counted : goal.returns-in-Ok-true-clause-counted
returns-in-Ok-true-clause-counted c = λ epid in_end past tallies at h.
    let own = c.args.self.now in
    let cpu = c.args.cpu in
    let comes : (taking epid (scene_of c.args.scene.now) past (form_of_clause c.args.clause.now)).outcome
    ≡ leaves (bare_values c.give_only.new.values.items) =
    c.in-Ok-true.ensures.left epid past at
    ∙ ap (λ b. cond b (leaves (bare_values c.give_only.new.values.items)) passed_over) c.in-Ok-true.field-0-test in
    subst (λ o. AreTallied (changed_at tallies cpu (with_outcome in_end o (tallies cpu))) own.all.items) (sym comes)
    (tallied_same tallies cpu (with_records in_end [] (tallies cpu)) own.all.items (sym (no_records in_end (tallies cpu))) h)

pub returns-in-Ok-false-clause-given : goal.returns-in-Ok-false-clause-given
returns-in-Ok-false-clause-given c = λ epid past pasts at h.
    let own = c.args.self.now in
    let cpu = c.args.cpu in
    let comes : (taking epid (scene_of c.args.scene.now) past (form_of_clause c.args.clause.now)).outcome ≡ passed_over =
    c.in-Ok-false.ensures.left epid past at
    ∙ ap (λ b. cond b (leaves (bare_values c.give_only.new.values.items)) passed_over) c.in-Ok-false.field-0-test in
    subst (λ o. AreGiven (with_given pasts cpu (given_of (form_of_uses c.args.uses.now) o)) own.stores.items) (sym comes)
    (given_nothing pasts own.stores.items cpu h)

pub returns-in-Ok-false-clause-counted : goal.returns-in-Ok-false-clause-counted
returns-in-Ok-false-clause-counted c = λ epid in_end past tallies at h.
    let own = c.args.self.now in
    let cpu = c.args.cpu in
    let comes : (taking epid (scene_of c.args.scene.now) past (form_of_clause c.args.clause.now)).outcome ≡ passed_over =
    c.in-Ok-false.ensures.left epid past at
    ∙ ap (λ b. cond b (leaves (bare_values c.give_only.new.values.items)) passed_over) c.in-Ok-false.field-0-test in
    subst (λ o. AreTallied (changed_at tallies cpu (with_outcome in_end o (tallies cpu))) own.all.items) (sym comes)
    (tallied_same tallies cpu (tallies cpu) own.all.items refl h)

pub returns-in-Err-DivZero-clause-given : goal.returns-in-Err-DivZero-clause-given
returns-in-Err-DivZero-clause-given c = λ epid past pasts at h.
    let own = c.args.self.now in
    let cpu = c.args.cpu in
    subst (λ o. AreGiven (with_given pasts cpu (given_of (form_of_uses c.args.uses.now) o)) own.stores.items)
    (sym (c.in-Err-DivZero.ensures.left epid past at)) (given_nothing pasts own.stores.items cpu h)

pub returns-in-Err-DivZero-clause-counted : goal.returns-in-Err-DivZero-clause-counted
returns-in-Err-DivZero-clause-counted c = λ epid in_end past tallies at h.
    let own = c.args.self.now in
    let cpu = c.args.cpu in
    let tally = tallies cpu in
    let was = c.index_mut-processor.result.now in
    let now : Processor = record {
      buffer = was.buffer;
      errors = was.errors + 1;
      dyndrops = was.dyndrops;
      specdrops = was.specdrops;
    } in
    subst (λ o. AreTallied (changed_at tallies cpu (with_outcome in_end o tally)) (slice_set own.all.items cpu now))
    (sym (c.in-Err-DivZero.ensures.left epid past at))
    (tallied_changed tallies cpu (with_outcome in_end abandoned tally) own.all.items was now
    (omega (arith, c.requires.there)) c.index_mut-processor.ensures.value
    (λ k. record {
      stands = k.stands;
      counted = ap (λ n. n + 1) k.counted;
      dynamic_dropped = k.dynamic_dropped;
      speculative_dropped = k.speculative_dropped;
    }) h)
