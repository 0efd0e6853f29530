-- What the proof of `record_at` is told at its goals.
use Rattle.std.proofs.Common.{◌≡◌, ◌++◌, Some, map, length, sum, unwrap_or, [], ap, sym, ◌∙◌, arith}
use Rattle.std.proofs.lemmas.List.{append_assoc, length-append}
use Rattle.std.specs.List.{flat_map, slice_get}
use Rattle.dt_record.specs.Fields.{form_of_field, form_of_layout}
use Rattle.dt_record.specs.Layout.{field_size}
use Rattle.dt_record.specs.Split.{recorded_bytes}
use Rattle.dt_record.specs.Taking.{epid_bytes}
use Rattle.dt_record.specs.laws.Fitting.{all-long}
use Rattle.dt_record.proofs.Fitting.{epid-read}
use Rattle.dt_record.proofs.splitting.record_at.Goals as goal

-- a rest that is too short for the fields that its EPID names
pub returns-then-rest-size : goal.returns-then-rest-size
returns-then-rest-size c = λ one after is whole.
    let head = c.split_at.result.0.now in
    let rest = c.split_at.result.1.now in
    let values = flat_map recorded_bytes one.values in
    let front : head ++ rest ≡ epid_bytes one.epid ++ (values ++ after) =
    sym c.split_at.ensures.by_index.0 ∙ whole ∙ append_assoc (epid_bytes one.epid) values after in
    let read = epid-read one.epid head rest (values ++ after) is.small c.split_at.ensures.front_len front in
    let named = c.in-Some.ensures.named in
    let number = c.read_u32-epid.ensures in
    let epid : c.read_u32-epid.result ≡ one.epid = number ∙ read.0 in
    let counted = named.1 in
    let numbered = is.numbered in
    let same : is.place ≡ named.0 = omega (arith, epid, counted, numbered) in
    let fields : is.fields ≡ map form_of_field c.in-Some.fields.now =
    ap (λ o. unwrap_or (unwrap_or o (Some [])) [])
    (sym is.named ∙ ap (slice_get (map form_of_layout c.args.layouts.now)) same ∙ named.2) in
    let long = all-long is.fields one.values is.fit in
    let sizes : sum (map field_size is.fields) ≡ sum (map field_size (map form_of_field c.in-Some.fields.now)) =
    ap (λ fs. sum (map field_size fs)) fields in
    let parts = ap length read.1 ∙ length-append values after in
    let total = c.total-size.ensures.total in
    let short = c.if-rest-size.true in
    omega (arith, long, sizes, parts, total, short)
