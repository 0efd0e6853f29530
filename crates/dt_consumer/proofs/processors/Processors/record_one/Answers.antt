-- What came of a clause that does nothing but record.
use Rattle.std.proofs.Common.{◌≡◌, ◌+◌, ◌∷◌, [], cond, sym, ap, subst, ◌∙◌, arith}
use Rattle.std.specs.List.{slice_set}
use Rattle.dt_expr.specs.Scene.{scene_of}
use Rattle.dt_lang.specs.Program.{form_of_clause}
use Rattle.dt_record.specs.Taking.{abandoned, leaves, passed_over, bare_record, taking}
use Rattle.dt_consumer.specs.Tallies.{AreTallied, changed_at, with_outcome, with_records}
use Rattle.dt_consumer.specs.declared.processor.Processor.{Processor}
use Rattle.dt_consumer.proofs.Tallying.{tallied_changed}
use Rattle.dt_consumer.proofs.processors.Processors.record_one.Goals as goal

pub returns-in-Ok-true-clause-recorded : goal.returns-in-Ok-true-clause-recorded
returns-in-Ok-true-clause-recorded c = λ past tallies at last h.
    let own = c.args.self.now in
    let cpu = c.args.cpu in
    let tally = tallies cpu in
    let was = c.index_mut.result.now in
    let now : Processor = record {
      buffer = c.put-put.new.self;
      errors = was.errors;
      dyndrops = was.dyndrops;
      specdrops = was.specdrops;
    } in
    let comes : (taking c.args.epid (scene_of c.args.scene.now) past (form_of_clause c.args.clause.now)).outcome
    ≡ leaves (bare_record c.deref.result.now) =
    c.in-Ok-true.ensures.left past at
    ∙ ap (λ b. cond b (leaves (bare_record c.record_only.new.record.items)) passed_over) c.in-Ok-true.field-0-test
    ∙ ap (λ bytes. leaves (bare_record bytes)) (sym c.deref.ensures.0) in
    subst (λ o. AreTallied (changed_at tallies cpu (with_outcome c.args.in_end o tally)) (slice_set own.all.items cpu now)) (sym comes)
    (tallied_changed tallies cpu (with_records c.args.in_end (c.deref.result.now ∷ []) tally) own.all.items was now
    (omega (arith, c.requires.there)) c.index_mut.ensures.value
    (λ k. record {
      stands = c.put-put.ensures.stands tally.came k.stands last;
      counted = k.counted;
      dynamic_dropped = k.dynamic_dropped;
      speculative_dropped = k.speculative_dropped;
    }) h)

pub returns-in-Err-DivZero-clause-recorded : goal.returns-in-Err-DivZero-clause-recorded
returns-in-Err-DivZero-clause-recorded c = λ past tallies at last h.
    let own = c.args.self.now in
    let cpu = c.args.cpu in
    let tally = tallies cpu in
    let was = c.index_mut-in-Err-DivZero.result.now in
    let now : Processor = record {
      buffer = was.buffer;
      errors = was.errors + 1;
      dyndrops = was.dyndrops;
      specdrops = was.specdrops;
    } in
    subst (λ o. AreTallied (changed_at tallies cpu (with_outcome c.args.in_end o tally)) (slice_set own.all.items cpu now))
    (sym (c.in-Err-DivZero.ensures.left past at))
    (tallied_changed tallies cpu (with_outcome c.args.in_end abandoned tally) own.all.items was now
    (omega (arith, c.requires.there)) c.index_mut-in-Err-DivZero.ensures.value
    (λ k. record {
      stands = k.stands;
      counted = ap (λ n. n + 1) k.counted;
      dynamic_dropped = k.dynamic_dropped;
      speculative_dropped = k.speculative_dropped;
    }) h)
