-- An entry is held exactly where a kept contribution holds it.
use Rattle.std.proofs.Common.{◌≡◌, ℕ, zero, suc, ◌<◌, ◌↔◌, ⊎_elim, ℤ, Bool, true, false, cond, ◌||◌, List, [], ◌∷◌}
use Rattle.std.proofs.Common.{Some, refl, sym, ap, ◌∙◌, subst, IsTrue, get_or, arith}
use Rattle.std.specs.Prelude.{slice_get, Contains}
use Rattle.std.specs.List.{list_any}
use Rattle.std.proofs.lemmas.Bool.{false≢true}
use Rattle.dt_aggstore.specs.Keys.{Entry, same_entry, same_aggregation}
use Rattle.dt_aggstore.specs.History.{Event, given, truncated}
use Rattle.dt_aggstore.specs.Held.{entry_of, truncates, counted, held_after, IsHeldBy}
use Rattle.dt_aggstore.specs.declared.key.Aggregation.{Aggregation}
use Rattle.dt_aggstore.specs.declared.key.KeyPart.{KeyPart}
use Rattle.dt_aggstore.proofs.Same.{entry_is, own_entry, aggregation_is, own_aggregation}
use Rattle.dt_aggstore.proofs.Filters.{yes_or_no}
use Rattle.dt_aggstore.proofs.Distinct.{has, has-distinct, has_from_contains, contains_from_has}
use Rattle.dt_aggstore.proofs.Counting.{contribution, names}

-- ---- truncations

not_truncated : (aggregation : Aggregation) (events : List Event) → list_any (truncates aggregation) events ≡ false
    → (i : ℕ) → slice_get events i ≡ Some (truncated aggregation) → ⊥
not_truncated aggregation [] e i at = cc
not_truncated aggregation (given a k v ∷ events) e zero at = cc
not_truncated aggregation (given a k v ∷ events) e (suc i) at = not_truncated aggregation events e i at
not_truncated aggregation (truncated a ∷ events) e zero at =
    let is : a ≡ aggregation = cc in
    false≢true (sym e ∙ ap (λ x. same_aggregation x aggregation || list_any (truncates aggregation) events) is
    ∙ ap (λ b. b || list_any (truncates aggregation) events) (own_aggregation aggregation))
not_truncated aggregation (truncated a ∷ events) e (suc i) at = ⊎_elim
    (λ yes. absurd (false≢true (sym e ∙ ap (λ b. b || list_any (truncates aggregation) events) yes)))
    (λ no. not_truncated aggregation events
    (sym (ap (λ b. b || list_any (truncates aggregation) events) no) ∙ e) i at)
    (yes_or_no (same_aggregation a aggregation))

none_truncates : (aggregation : Aggregation) (events : List Event)
    → ((i : ℕ) → slice_get events i ≡ Some (truncated aggregation) → ⊥) → list_any (truncates aggregation) events
    ≡ false
none_truncates aggregation [] h = refl
none_truncates aggregation (given a k v ∷ events) h = none_truncates aggregation events (λ i at. h (suc i) at)
none_truncates aggregation (truncated a ∷ events) h = ⊎_elim
    (λ yes. absurd (h 0 (ap (λ x. Some (truncated x)) (aggregation_is a aggregation yes))))
    (λ no. ap (λ b. b || list_any (truncates aggregation) events) no
    ∙ none_truncates aggregation events (λ i at. h (suc i) at))
    (yes_or_no (same_aggregation a aggregation))

-- ---- what is held is held by a contribution

later_held : (event : Event) (events : List Event) (c : Bool) (chosen : List Bool) (entry : Entry)
    → IsHeldBy events chosen entry → IsHeldBy (event ∷ events) (c ∷ chosen) entry
later_held event events c chosen entry h = record {
  place = suc h.place;
  value = h.value;
  there = h.there;
  kept = h.kept;
  since = λ later lt at. by later lt at;
}
  where
    by : (later : ℕ) → suc h.place < later → slice_get (event ∷ events) later ≡ Some (truncated entry.aggregation)
        → ⊥
    by zero lt at = omega arith
    by (suc later) lt at = h.since later (omega arith) at

held_here : (a : Aggregation) (k : List KeyPart) (v : ℤ) (events : List Event) (chosen : List Bool) (entry : Entry)
    → list_any (truncates a) events ≡ false → entry_of a k ≡ entry
    → IsHeldBy (given a k v ∷ events) (true ∷ chosen) entry
held_here a k v events chosen entry none is = record {
  place = 0;
  value = v;
  there = ap (λ (e : Entry). Some (given e.aggregation e.key v)) is;
  kept = refl;
  since = λ later lt at. by later lt at;
}
  where
    by : (later : ℕ) → 0 < later → slice_get (given a k v ∷ events) later ≡ Some (truncated entry.aggregation) → ⊥
    by zero lt at = omega arith
    by (suc later) lt at =
        not_truncated a events none later
        (at ∙ ap (λ (e : Entry). Some (truncated e.aggregation)) (sym is))

held_by : (events : List Event) (chosen : List Bool) (entry : Entry) → has entry (names (counted events chosen))
    ≡ true
    → IsHeldBy events chosen entry
held_by [] chosen entry e = absurd (false≢true e)
held_by (event ∷ events) [] entry e = absurd (false≢true e)
held_by (given a k v ∷ events) (true ∷ chosen) entry e =
    let P : Bool → Type 0 =
    λ b. has entry (names (cond b (counted events chosen) (contribution a k v ∷ counted events chosen))) ≡ true in
    ⊎_elim
    (λ gone. later_held (given a k v) events true chosen entry (held_by events chosen entry (subst P gone e)))
    (λ stays. ⊎_elim
    (λ is. held_here a k v events chosen entry stays (entry_is (entry_of a k) entry is))
    (λ other. later_held (given a k v) events true chosen entry (held_by events chosen entry
    (sym (ap (λ b. b || has entry (names (counted events chosen))) other) ∙ subst P stays e)))
    (yes_or_no (same_entry (entry_of a k) entry)))
    (yes_or_no (list_any (truncates a) events))
held_by (given a k v ∷ events) (false ∷ chosen) entry e =
    later_held (given a k v) events false chosen entry (held_by events chosen entry e)
held_by (truncated a ∷ events) (c ∷ chosen) entry e =
    later_held (truncated a) events c chosen entry (held_by events chosen entry e)

-- ---- what a contribution holds is held

or_right : (a b : Bool) → b ≡ true → (a || b) ≡ true
or_right true b e = refl
or_right false b e = e

is_held : (events : List Event) (chosen : List Bool) (entry : Entry) (place : ℕ) (value : ℤ)
    → slice_get events place ≡ Some (given entry.aggregation entry.key value) → IsTrue (get_or chosen place false)
    → ((later : ℕ) → place < later → slice_get events later ≡ Some (truncated entry.aggregation) → ⊥)
    → has entry (names (counted events chosen)) ≡ true
is_held [] chosen entry place value there kept since = cc
is_held (event ∷ events) [] entry place value there kept since = absurd (false≢true kept)
is_held (given a k v ∷ events) (true ∷ chosen) entry zero value there kept since =
    let aggregation : a ≡ entry.aggregation = cc in
    let key : k ≡ entry.key = cc in
    let is : entry_of a k ≡ entry = (λ i. record { aggregation = aggregation i; key = key i }) in
    let none = none_truncates a events
    (λ i at. since (suc i) (omega arith) (at ∙ ap (λ x. Some (truncated x)) aggregation)) in
    ap (λ b. has entry (names (cond b (counted events chosen) (contribution a k v ∷ counted events chosen)))) none
    ∙ ap (λ x. same_entry x entry || has entry (names (counted events chosen))) is
    ∙ ap (λ b. b || has entry (names (counted events chosen))) (own_entry entry)
is_held (given a k v ∷ events) (false ∷ chosen) entry zero value there kept since = absurd (false≢true kept)
is_held (truncated a ∷ events) (c ∷ chosen) entry zero value there kept since = cc
is_held (given a k v ∷ events) (true ∷ chosen) entry (suc place) value there kept since =
    let rest = is_held events chosen entry place value there kept
    (λ later lt at. since (suc later) (omega arith) at) in
    ⊎_elim
    (λ gone.
    ap (λ b. has entry (names (cond b (counted events chosen) (contribution a k v ∷ counted events chosen)))) gone
    ∙ rest)
    (λ stays.
    ap (λ b. has entry (names (cond b (counted events chosen) (contribution a k v ∷ counted events chosen)))) stays
    ∙ or_right (same_entry (entry_of a k) entry) (has entry (names (counted events chosen))) rest)
    (yes_or_no (list_any (truncates a) events))
is_held (given a k v ∷ events) (false ∷ chosen) entry (suc place) value there kept since =
    is_held events chosen entry place value there kept (λ later lt at. since (suc later) (omega arith) at)
is_held (truncated a ∷ events) (c ∷ chosen) entry (suc place) value there kept since =
    is_held events chosen entry place value there kept (λ later lt at. since (suc later) (omega arith) at)

pub held_where : (events : List Event) (chosen : List Bool) (entry : Entry)
    → Contains (held_after events chosen) entry ↔ IsHeldBy events chosen entry
held_where events chosen entry = (
  (λ among. held_by events chosen entry
      (sym (has-distinct (names (counted events chosen)) entry)
      ∙ has_from_contains (held_after events chosen) entry among)),
  (λ h. contains_from_has (held_after events chosen) entry
      (has-distinct (names (counted events chosen)) entry
      ∙ is_held events chosen entry h.place h.value h.there h.kept h.since)),
)
