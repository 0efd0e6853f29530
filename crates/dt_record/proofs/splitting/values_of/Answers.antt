-- What the proof of `values_of` is told at its goals.
use Rattle.std.proofs.Common.{◌≡◌, ◌++◌, ◌∷◌, [], map, ap, ◌∙◌, arith}
use Rattle.std.proofs.lemmas.List.{map-append}
use Rattle.std.specs.List.{flat_map}
use Rattle.dt_record.specs.Records.{form_of_recorded}
use Rattle.dt_record.specs.Split.{recorded_bytes}
use Rattle.dt_record.proofs.Bytes.{pieces-more}
use Rattle.dt_record.proofs.Fitting.{fit-turn, sum-turn}
use Rattle.dt_record.proofs.splitting.values_of.Goals as goal

pub loop-field-preserved : goal.loop-field-preserved
loop-field-preserved c =
    let fields = c.args.fields.now in
    let i = c.loop-field.field-index in
    let field = c.field-item.result in
    let old = c.loop-field.values.items in
    let value = c.in_ok-value_of.field-0 in
    let pushed : map form_of_recorded c.push.new.self.items ≡ map form_of_recorded old ++ form_of_recorded value ∷ [] =
    ap (map form_of_recorded) c.in_ok-push.ensures.items ∙ map-append form_of_recorded old (value ∷ []) in
    record {
      fit = fit-turn fields i field c.loop-field-test.true c.field-item.is (map form_of_recorded old)
          (map form_of_recorded c.push.new.self.items) (form_of_recorded value) pushed c.loop-field.invariant.fit
          c.in_ok-value_of.ensures.fits;
      long =
          let turn = sum-turn fields i field c.loop-field-test.true c.field-item.is in
          let long = c.loop-field.invariant.long in
          let cut = c.split_at.ensures.back_len in
          let size = c.size.ensures.size in
          omega (arith, turn, long, cut, size);
      same = ap (λ l. flat_map recorded_bytes l ++ c.split_at.result.1.now) pushed
          ∙ pieces-more recorded_bytes (map form_of_recorded old) (form_of_recorded value) c.split_at.result.0.now
          c.split_at.result.1.now c.loop-field.rest.now c.args.bytes.now c.loop-field.invariant.same
          c.split_at.ensures.by_index.0 c.in_ok-value_of.ensures.same;
    }
