-- The interest of ECBs has exactly the probes that they name.
use Rattle.std.proofs.Common.{◌≡◌, ◌≢◌, ℕ, ◌==◌, ◌||◌, Bool, true, false, cond, List, [], ◌∷◌, Some, None, refl, sym}
use Rattle.std.proofs.Common.{ap, ◌+◌, ◌<◌, ◌≤◌, max, length, map, unwrap_or, ◌∙◌, arith, ⊎_elim}
use Rattle.std.proofs.lemmas.Bool.{eqb-true, true_from_ne_false, false_from_ne_true, or_cases, cases_lt}
use Rattle.dt_ecb.specs.Ecbs.{EcbForm, of_probe}
use Rattle.dt_ecb.specs.Interest.{is_wanted, beyond, interest_of}
use Rattle.std.proofs.lemmas.List.FromFn.{get_or-map-range_with_len, length-map-range_with_len}
use Rattle.std.proofs.lemmas.Option.{slice_get-get_or, slice_get_past}
use Rattle.std.specs.List.{range_with_len, slice_get}
use Rattle.dt_machine.specs.Interest as interest

-- one ECB more, of the probe or of another
wanted_more : (same more : Bool) (ecb : EcbForm) (rest : List EcbForm) → (more ≡ true → rest ≢ [])
    → (same || more) ≡ true → cond same (ecb ∷ rest) rest ≢ []
wanted_more true more ecb rest h is e = cc
wanted_more false more ecb rest h is e = h is e

unwanted_more : (same more : Bool) (ecb : EcbForm) (rest : List EcbForm) → (more ≡ false → rest ≡ [])
    → (same || more) ≡ false → cond same (ecb ∷ rest) rest ≡ []
unwanted_more true more ecb rest h is = cc
unwanted_more false more ecb rest h is = h is

pub wanted_from : (ecbs : List EcbForm) (probe : ℕ) → is_wanted ecbs probe ≡ true → of_probe probe ecbs ≢ []
wanted_from [] probe h = cc
wanted_from (ecb ∷ ecbs) probe h =
    wanted_more (ecb.probe == probe) (is_wanted ecbs probe) ecb (of_probe probe ecbs) (wanted_from ecbs probe) h

unwanted : (ecbs : List EcbForm) (probe : ℕ) → is_wanted ecbs probe ≡ false → of_probe probe ecbs ≡ []
unwanted [] probe h = refl
unwanted (ecb ∷ ecbs) probe h =
    unwanted_more (ecb.probe == probe) (is_wanted ecbs probe) ecb (of_probe probe ecbs) (unwanted ecbs probe) h

pub wanted_to : (ecbs : List EcbForm) (probe : ℕ) → of_probe probe ecbs ≢ [] → is_wanted ecbs probe ≡ true
wanted_to ecbs probe h = true_from_ne_false (is_wanted ecbs probe) (λ no. h (unwanted ecbs probe no))

-- each identifier that an ECB names has a flag
below_more : (ecb : EcbForm) (ecbs : List EcbForm) (id : ℕ) → (is_wanted ecbs id ≡ true → id < beyond ecbs)
    → is_wanted (ecb ∷ ecbs) id ≡ true → id < max (ecb.probe + 1) (beyond ecbs)
below_more ecb ecbs id below h =
    ⊎_elim
    (λ same. let is : ecb.probe ≡ id = eqb-true ecb.probe id same in omega arith)
    (λ more. let less = below more in omega (arith, less))
    (or_cases (ecb.probe == id) (is_wanted ecbs id) h)

below : (ecbs : List EcbForm) (id : ℕ) → is_wanted ecbs id ≡ true → id < beyond ecbs
below [] id h = cc
below (ecb ∷ ecbs) id h = below_more ecb ecbs id (below ecbs id) h

flag_at : (ecbs : List EcbForm) (id : ℕ) → id < beyond ecbs → slice_get (interest_of ecbs) id
    ≡ Some (is_wanted ecbs id)
unfolding interest_of
flag_at ecbs id h =
    let long : length (map (is_wanted ecbs) (range_with_len 0 (beyond ecbs))) ≡ beyond ecbs =
    length-map-range_with_len (is_wanted ecbs) 0 (beyond ecbs) in
    slice_get-get_or (map (is_wanted ecbs) (range_with_len 0 (beyond ecbs))) id false (omega arith)
    ∙ ap Some (get_or-map-range_with_len (is_wanted ecbs) 0 (beyond ecbs) id id false h (omega arith))

no_flag_at : (ecbs : List EcbForm) (id : ℕ) → beyond ecbs ≤ id → slice_get (interest_of ecbs) id ≡ None
unfolding interest_of
no_flag_at ecbs id h =
    let long : length (map (is_wanted ecbs) (range_with_len 0 (beyond ecbs))) ≡ beyond ecbs =
    length-map-range_with_len (is_wanted ecbs) 0 (beyond ecbs) in
    slice_get_past (map (is_wanted ecbs) (range_with_len 0 (beyond ecbs))) id (omega arith)

-- the interest of ECBs has exactly the probes that they name
pub interest_from : (ecbs : List EcbForm) (id : ℕ) → interest.Names (interest_of ecbs) id → is_wanted ecbs id ≡ true
interest_from ecbs id h =
    ⊎_elim
    (λ low. let is = flag_at ecbs id low in cc)
    (λ high. let is = no_flag_at ecbs id high in cc)
    (cases_lt id (beyond ecbs))

pub interest_to : (ecbs : List EcbForm) (id : ℕ) → is_wanted ecbs id ≡ true → interest.Names (interest_of ecbs) id
interest_to ecbs id h = flag_at ecbs id (below ecbs id h) ∙ ap Some h

-- what an entry of these ECBs says of a probe
pub interest_flag : (ecbs : List EcbForm) (id : ℕ) → unwrap_or (slice_get (interest_of ecbs) id) false
    ≡ is_wanted ecbs id
interest_flag ecbs id =
    ⊎_elim
    (λ low. ap (λ o. unwrap_or o false) (flag_at ecbs id low))
    (λ high.
    let none : is_wanted ecbs id ≡ false =
    false_from_ne_true (is_wanted ecbs id) (λ h. let low = below ecbs id h in absurd (omega (arith, low, high))) in
    ap (λ o. unwrap_or o false) (no_flag_at ecbs id high) ∙ sym none)
    (cases_lt id (beyond ecbs))
