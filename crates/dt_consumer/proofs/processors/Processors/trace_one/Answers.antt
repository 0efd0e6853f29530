-- What came of a clause that traces a variable.
use Rattle.std.proofs.Common.{◌∷◌, [], false, sym, ap, subst, ◌∙◌, arith}
use Rattle.std.specs.List.{slice_set}
use Rattle.dt_expr.specs.Scene.{scene_of}
use Rattle.dt_record.specs.Taking.{leaves, bare_record}
use Rattle.dt_record.specs.laws.Traced.{traced_leaves}
use Rattle.dt_consumer.specs.Tallies.{AreTallied, changed_at, with_outcome, with_records}
use Rattle.dt_consumer.specs.declared.processor.Processor.{Processor}
use Rattle.dt_consumer.proofs.Tallying.{tallied_changed}
use Rattle.dt_consumer.proofs.processors.Processors.trace_one.Goals as goal

pub returns-clause-recorded : goal.returns-clause-recorded
returns-clause-recorded c = λ clause past tallies known last h.
    let own = c.args.self.now in
    let cpu = c.args.cpu in
    let tally = tallies cpu in
    let was = c.index_mut.result.now in
    let now : Processor = record {
      buffer = c.put-put.new.self;
      errors = was.errors;
      dyndrops = was.dyndrops;
      specdrops = was.specdrops;
    } in
    let comes = traced_leaves c.args.traced.epid (scene_of c.args.scene.now) past clause c.args.traced.variable known
    ∙ ap (λ bytes. leaves (bare_record bytes)) (sym c.traced_record.ensures) in
    subst (λ o. AreTallied (changed_at tallies cpu (with_outcome false o tally)) (slice_set own.all.items cpu now)) (sym comes)
    (tallied_changed tallies cpu (with_records false (c.traced_record.result ∷ []) tally) own.all.items was now
    (omega (arith, c.requires.there)) c.index_mut.ensures.value
    (λ k. record {
      stands = c.put-put.ensures.stands tally.came k.stands last;
      counted = k.counted;
      dynamic_dropped = k.dynamic_dropped;
      speculative_dropped = k.speculative_dropped;
    }) h)
