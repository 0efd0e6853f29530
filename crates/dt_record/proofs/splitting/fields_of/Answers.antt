-- What the proof of `fields_of` is told at its goals.
use Rattle.std.proofs.Common.{◌≡◌, ℕ, List, Some, None, is_some, unwrap_or, map, length, refl, ap, sym, subst, ◌∙◌}
use Rattle.std.proofs.Common.{arith}
use Rattle.std.proofs.Math.Bool.{false≢true}
use Rattle.std.proofs.lemmas.Option.{slice_get_read, slice_get-map}
use Rattle.std.specs.List.{slice_get}
use Rattle.std.specs.Option.{option_map}
use Rattle.dt_record.specs.Fields.{form_of_field, form_of_layout}
use Rattle.dt_record.specs.Layout.{FieldForm}
use Rattle.dt_record.specs.declared.layout.Layout.{Layout}
use Rattle.dt_record.proofs.splitting.fields_of.Goals as goal

-- a layout without a record names no fields
nameless : (layouts : List Layout) (at : ℕ) (layout : Layout) (fields : List FieldForm)
    → slice_get layouts at ≡ Some layout → layout.fields ≡ None
    → slice_get (map form_of_layout layouts) at ≡ Some (Some fields) → ⊥
nameless layouts at layout fields here none named =
    let form : Some (option_map (λ fields. map form_of_field fields.items) layout.fields) ≡ Some (Some fields) =
    sym (slice_get-map form_of_layout layouts at ∙ ap (option_map form_of_layout) here) ∙ named in
    false≢true (ap (λ o. is_some (unwrap_or o None))
    (ap (λ f. Some (option_map (λ fields. map form_of_field fields.items) f)) (sym none) ∙ form))

pub returns-in-None-clause-named : goal.returns-in-None-clause-named
returns-in-None-clause-named c = λ place fields e named.
    let lookup = c.in_ok-layout.ensures.lookup in
    let taken = c.in_ok-place.ensures in
    let same : place ≡ c.in_ok-place.place = omega (arith, taken, e) in
    nameless c.args.layouts.now c.in_ok-place.place c.in_ok-layout.layout.now fields
    (slice_get_read c.args.layouts.now (length c.args.layouts.now) c.in_ok-place.place c.in_ok-layout.layout.now refl
    lookup.3.0 lookup.1)
    c.in-None.is
    (subst (λ at. slice_get (map form_of_layout c.args.layouts.now) at ≡ Some (Some fields)) same named)
