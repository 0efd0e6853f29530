-- A record was put.
use Rattle.std.proofs.Common.{true, false, ◌+◌, Some, refl, sym, ap, ◌∙◌, subst, arith}
use Rattle.std.specs.Option.{option_map}
use Rattle.dt_record.specs.Forms.{form_of_taken}
use Rattle.dt_consumer.specs.Tallies.{with_left}
use Rattle.dt_speculation.specs.History.{specs_then}
use Rattle.dt_speculation.specs.IsAt.{SpecsAt}
use Rattle.dt_consumer.proofs.Tallying.{at_most_set, left_nothing, put_directed, put_plain, puts_directed, retally, tallied_changed, tallied_same, undropped}
use Rattle.dt_consumer.proofs.processors.Processors.put_record.Goals as goal

pub returns-in-None-clause-put : goal.returns-in-None-clause-put
returns-in-None-clause-put c = λ past tallies at last h.
    let own = c.args.self.now in
    let form = form_of_taken c.args.left.now in
    let tally = tallies c.args.cpu in
    tallied_changed tallies c.args.cpu (with_left c.args.in_end c.args.cpu past form tally) own.all.items
    c.index_mut-processor.result.now _ (omega (arith, c.requires.there)) c.index_mut-processor.ensures.value
    (λ k. retally _ _ _
    (put_plain c.args.in_end c.args.cpu past form c.deref.result.now tally
    (ap (option_map (λ bytes. bytes.items)) c.in-Some.is ∙ ap Some (sym c.deref.ensures.0)) c.in-None.is)
    (record {
      stands = c.put-put.ensures.stands tally.came k.stands last;
      counted = k.counted;
      dynamic_dropped = k.dynamic_dropped;
      speculative_dropped = k.speculative_dropped;
    })) h

pub returns-in-Dropped-clause-put : goal.returns-in-Dropped-clause-put
returns-in-Dropped-clause-put c = λ past tallies at last h.
    let own = c.args.self.now in
    let form = form_of_taken c.args.left.now in
    let tally = tallies c.args.cpu in
    let bytes = c.deref-in-Some-spec.result.now in
    let id = c.in-Some-spec.id in
    let told = c.drops_told.ensures.told past id c.args.cpu bytes c.put.result (c.put.ensures.answers past at) in
    tallied_changed tallies c.args.cpu (with_left c.args.in_end c.args.cpu past form tally) own.all.items
    c.index_mut-processor.result.now _ (omega (arith, c.requires.there)) c.index_mut-processor.ensures.value
    (λ k. retally _ _ _
    (put_directed c.args.in_end c.args.cpu past form bytes id true tally
    (ap (option_map (λ bytes. bytes.items)) c.in-Some.is ∙ ap Some (sym c.deref-in-Some-spec.ensures.0))
    c.in-Some-spec.is (told.0 c.in-Dropped.is))
    (record {
      stands = k.stands;
      counted = k.counted;
      dynamic_dropped = k.dynamic_dropped;
      speculative_dropped = ap (λ n. n + 1) k.speculative_dropped;
    })) h

pub returns-in_default-put : goal.returns-in_default-put
returns-in_default-put c =
    let own = c.args.self.now in
    let form = form_of_taken c.args.left.now in
    let bytes = c.deref-in-Some-spec.result.now in
    let id = c.in-Some-spec.id in
    let left = ap (option_map (λ bytes. bytes.items)) c.in-Some.is ∙ ap Some (sym c.deref-in-Some-spec.ensures.0) in
    record {
      len = omega arith;
      stores = refl;
      locals = refl;
      counts = λ n h. at_most_set n (n + 1) own.all.items c.args.cpu c.index_mut-processor.result.now _ (omega arith)
          (omega (arith, c.requires.there)) c.index_mut-processor.ensures.value
          (λ at. (omega (arith, at.0), omega (arith, at.1), omega (arith, at.2), omega (arith, at.3))) h;
      fails = c.put.ensures.fails;
      specs = λ past at. subst (λ events. SpecsAt (specs_then past events) c.put.new.self)
          (puts_directed c.args.cpu form bytes id left c.in-Some-spec.is) (c.put.ensures.stands past at);
      put = λ past tallies at last h.
          let tally = tallies c.args.cpu in
          let told = c.drops_told.ensures.told past id c.args.cpu bytes c.put.result (c.put.ensures.answers past at) in
          tallied_changed tallies c.args.cpu (with_left c.args.in_end c.args.cpu past form tally) own.all.items
          c.index_mut-processor.result.now _ (omega (arith, c.requires.there)) c.index_mut-processor.ensures.value
          (λ k. retally _ _ _
          (put_directed c.args.in_end c.args.cpu past form bytes id false tally left c.in-Some-spec.is
          (undropped c.put.result _ c.in_default-put.not-Dropped told.1))
          (record {
            stands = k.stands;
            counted = k.counted;
            dynamic_dropped = k.dynamic_dropped;
            speculative_dropped = k.speculative_dropped ∙ omega arith;
          })) h;
    }

pub returns-in_default-clause-put : goal.returns-in_default-clause-put
returns-in_default-clause-put c = λ past tallies at last h.
    tallied_same tallies c.args.cpu _ c.args.self.now.all.items
    (left_nothing c.args.in_end c.args.cpu past (form_of_taken c.args.left.now) (tallies c.args.cpu)
    (ap (option_map (λ bytes. bytes.items)) c.in_default.is)) h
