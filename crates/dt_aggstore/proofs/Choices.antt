-- A past has one choice, and one event more is chosen or it isn't.
use Rattle.std.proofs.Common.{◌≡◌, ℕ, zero, suc, ◌+◌, ◌<◌, ◌≤◌, ◌↔◌, ⊎_elim, inl, inr, ℤ, Bool, true, false, List, []}
use Rattle.std.proofs.Math.Bool.{or-true}
use Rattle.std.proofs.Common.{◌∷◌, ◌++◌, length, get_or, take, Some, refl, sym, ap, ◌∙◌, subst, IsTrue, ◌||◌, arith}
use Rattle.std.specs.Prelude.{slice_get, nat_le}
use Rattle.std.specs.List.{fold}
use Rattle.std.proofs.Math.Seq.{take-suc}
use Rattle.std.proofs.lemmas.Bool.{cases_eq, false≢true, or_cases, leb-true, le-leb}
use Rattle.std.proofs.lemmas.List.{append_assoc, append-nil, take-append-le, take_all, length_push}
use Rattle.std.proofs.lemmas.Option.{slice_get_within}
use Rattle.dt_aggstore.specs.Keys.{entry_cost, cost_of}
use Rattle.dt_aggstore.specs.History.{Event, given, truncated, Past, after}
use Rattle.dt_aggstore.specs.Held.{entry_of, held_after}
use Rattle.dt_aggstore.specs.Choice.{IsKept, IsChoice, KeepsContribution}
use Rattle.dt_aggstore.specs.Chosen.{is_kept, choice_of}
use Rattle.dt_aggstore.specs.declared.key.Aggregation.{Aggregation}
use Rattle.dt_aggstore.specs.declared.key.KeyPart.{KeyPart}
use Rattle.dt_aggstore.proofs.Distinct.{has, has_from_contains, contains_from_has}

-- what is true exactly where the same holds is the same
pub same_bits : (x y : Bool) (P : Type 0) → IsTrue x ↔ P → IsTrue y ↔ P → x ≡ y
same_bits true true P f g = refl
same_bits true false P f g = sym (g.1 (f.0 refl))
same_bits false true P f g = f.1 (g.0 refl)
same_bits false false P f g = refl

-- ---- elements of lists

event_at : (events : List Event) (i : ℕ) → i < length events → (event : Event) × (slice_get events i ≡ Some event)
event_at [] i h = absurd (omega arith)
event_at (event ∷ events) zero h = (event, refl)
event_at (event ∷ events) (suc i) h = event_at events i (omega arith)

get-push : (events : List Event) (event : Event) (i : ℕ) → i < length events
    → slice_get (events ++ event ∷ []) i ≡ slice_get events i
get-push [] event i h = absurd (omega arith)
get-push (e ∷ events) event zero h = refl
get-push (e ∷ events) event (suc i) h = get-push events event i (omega arith)

get-last : (events : List Event) (event : Event) (i : ℕ) → i ≡ length events
    → slice_get (events ++ event ∷ []) i ≡ Some event
get-last [] event zero e = refl
get-last [] event (suc i) e = absurd (omega arith)
get-last (x ∷ events) event zero e = absurd (omega arith)
get-last (x ∷ events) event (suc i) e = get-last events event i (omega arith)

get_or-push : (xs : List Bool) (x d : Bool) (i : ℕ) → i < length xs → get_or (xs ++ x ∷ []) i d ≡ get_or xs i d
get_or-push [] x d i h = absurd (omega arith)
get_or-push (y ∷ xs) x d zero h = refl
get_or-push (y ∷ xs) x d (suc i) h = get_or-push xs x d i (omega arith)

get_or-last : (xs : List Bool) (x d : Bool) (i : ℕ) → i ≡ length xs → get_or (xs ++ x ∷ []) i d ≡ x
get_or-last [] x d zero e = refl
get_or-last [] x d (suc i) e = absurd (omega arith)
get_or-last (y ∷ xs) x d zero e = absurd (omega arith)
get_or-last (y ∷ xs) x d (suc i) e = get_or-last xs x d i (omega arith)

take-whole : {X : Type 0} (xs : List X) (i : ℕ) → i ≡ length xs → take i xs ≡ xs
take-whole xs i e = take_all i xs (omega arith)

-- ---- one choice at most

module _ (past : Past) (a b : List Bool) (ca : IsChoice past a) (cb : IsChoice past b) where
  same_bit : (i : ℕ) → i < length past.events → take i a ≡ take i b → get_or a i false ≡ get_or b i false
  same_bit i h front =
      let at = event_at past.events i h in
      let P : List Bool → Type 0 =
      λ t. IsTrue (get_or b i false) ↔ IsKept past.size (take i past.events) t at.0 in
      same_bits (get_or a i false) (get_or b i false) (IsKept past.size (take i past.events) (take i a) at.0)
      (ca.exactly i at.0 at.1) (subst P (sym front) (cb.exactly i at.0 at.1))

  same_front : (i : ℕ) → i ≤ length past.events → take i a ≡ take i b
  same_front zero h = refl
  same_front (suc i) h =
      let front = same_front i (omega arith) in
      take-suc a i false (omega (arith, ca.whole)) ∙ ap (λ t. t ++ get_or a i false ∷ []) front
      ∙ ap (λ x. take i b ++ x ∷ []) (same_bit i (omega arith) front)
      ∙ sym (take-suc b i false (omega (arith, cb.whole)))

  pub one_choice : a ≡ b
  one_choice =
      sym (take_all (length past.events) a (omega (arith, ca.whole))) ∙ same_front (length past.events) (omega arith)
      ∙ take_all (length past.events) b (omega (arith, cb.whole))

-- ---- one event more

module _ (past : Past) (chosen : List Bool) (event : Event) (b : Bool) (choice : IsChoice past chosen)
    (kept : IsTrue b ↔ IsKept past.size past.events chosen event) where
  abbrev Right-at : ℕ → Event → Type 0
  Right-at i e =
      IsTrue (get_or (chosen ++ b ∷ []) i false)
      ↔ IsKept past.size (take i (past.events ++ event ∷ [])) (take i (chosen ++ b ∷ [])) e

  choice_before : (i : ℕ) (e : Event) → i < length past.events → slice_get (past.events ++ event ∷ []) i ≡ Some e
      → Right-at i e
  choice_before i e h at =
      rw (
        get_or-push chosen b false i (omega (arith, choice.whole)),
        take-append-le i past.events (event ∷ []) (omega arith),
        take-append-le i chosen (b ∷ []) (omega (arith, choice.whole)),
      )
      (choice.exactly i e (sym (get-push past.events event i h) ∙ at))

  choice_last : (i : ℕ) (e : Event) → i ≡ length past.events → slice_get (past.events ++ event ∷ []) i ≡ Some e
      → Right-at i e
  choice_last i e n at =
      let known : event ≡ e = (let both : Some event ≡ Some e = sym (get-last past.events event i n) ∙ at in
      cc both) in
      rw (
        get_or-last chosen b false i (omega (arith, choice.whole)),
        take-append-le i past.events (event ∷ []) (omega arith),
        take-append-le i chosen (b ∷ []) (omega (arith, choice.whole)),
        take-whole past.events i n,
        take-whole chosen i (omega (arith, choice.whole)),
      )
      (subst (λ x. IsTrue b ↔ IsKept past.size past.events chosen x) known kept)

  pub choice_more : IsChoice (after past event) (chosen ++ b ∷ [])
  choice_more = record {
    whole = omega (arith, length_push chosen b, length_push past.events event, choice.whole);
    exactly = λ i e at. ⊎_elim
        (λ n. choice_last i e n at)
        (λ ne. choice_before i e
        (omega (arith, length_push past.events event, slice_get_within (past.events ++ event ∷ []) i e at)) at)
        (cases_eq i (length past.events));
  }

-- ---- some choice

-- the test of what is kept tells it
pub kept_exactly : (size : ℕ) (events : List Event) (chosen : List Bool) (event : Event)
    → IsTrue (is_kept size events chosen event) ↔ IsKept size events chosen event
kept_exactly size events chosen (given aggregation key value) =
    let entry = entry_of aggregation key in
    let among = has entry (held_after events chosen) in
    let cost = entry_cost aggregation key + cost_of (held_after events chosen) in (
      (λ kept. ⊎_elim
          (λ yes. inl (contains_from_has (held_after events chosen) entry yes))
          (λ fits. inr (leb-true cost size fits))
          (or_cases among (nat_le cost size) kept)),
      (λ kept. ⊎_elim
          (λ yes. ap (λ b. b || nat_le cost size) (has_from_contains (held_after events chosen) entry yes))
          (λ fits. ap (λ b. among || b) (le-leb cost size fits) ∙ or-true among)
          kept),
    )
kept_exactly size events chosen (truncated aggregation) = ((λ e. absurd (false≢true e)), (λ none. absurd none))

abbrev Of : ℕ → List Event → Past
Of size events = record { size = size; events = events }

-- the choice, one event longer
abbrev Step : ℕ → List Event → List Bool → Event → List Bool
Step size events chosen event = chosen ++ is_kept size (take (length chosen) events) chosen event ∷ []

choice_from : (size : ℕ) (done rest : List Event) (chosen : List Bool) → IsChoice (Of size done) chosen
    → IsChoice (Of size (done ++ rest)) (fold (Step size (done ++ rest)) chosen rest)
choice_from size done [] chosen choice = subst (λ xs. IsChoice (Of size xs) chosen) (sym (append-nil done)) choice
choice_from size done (event ∷ rest) chosen choice =
    let all = done ++ event ∷ rest in
    let before : take (length chosen) all ≡ done =
    take-append-le (length chosen) done (event ∷ rest) (omega (arith, choice.whole))
    ∙ take-whole done (length chosen) choice.whole in
    let b = is_kept size (take (length chosen) all) chosen event in
    let kept : IsTrue b ↔ IsKept size done chosen event =
    subst (λ xs. IsTrue (is_kept size xs chosen event) ↔ IsKept size done chosen event) (sym before)
    (kept_exactly size done chosen event) in
    subst (λ xs. IsChoice (Of size xs) (fold (Step size xs) (chosen ++ b ∷ []) rest))
    (append_assoc done (event ∷ []) rest)
    (choice_from size (done ++ event ∷ []) rest (chosen ++ b ∷ [])
    (choice_more (Of size done) chosen event b choice kept))

pub no_choice : (size : ℕ) → IsChoice (Of size []) []
no_choice size = record {
  whole = refl;
  exactly =
      λ i event e. absurd (omega (arith, slice_get_within [] i event e));
}

pub is_choice : (past : Past) → IsChoice past (choice_of past)
unfolding choice_of
is_choice past = choice_from past.size [] past.events [] (no_choice past.size)

pub some_choice : (past : Past) → (c : List Bool) × IsChoice past c
some_choice past = (choice_of past, is_choice past)

-- the choice of a past that is one event longer
pub choice_of-after : (past : Past) (event : Event)
    → choice_of (after past event)
    ≡ choice_of past ++ is_kept past.size past.events (choice_of past) event ∷ []
choice_of-after past event =
    let chosen = choice_of past in
    let b = is_kept past.size past.events chosen event in
    one_choice (after past event) (choice_of (after past event)) (chosen ++ b ∷ []) (is_choice (after past event))
    (choice_more past chosen event b (is_choice past) (kept_exactly past.size past.events chosen event))

-- ---- what is answered

-- a contribution is kept exactly where the choice says so
pub keeps : (past : Past) (aggregation : Aggregation) (key : List KeyPart) (value : ℤ) (chosen : List Bool) (b :
    Bool)
    → IsChoice past chosen → IsTrue b ↔ IsKept past.size past.events chosen (given aggregation key value)
    → IsTrue b ↔ KeepsContribution past aggregation key value
keeps past aggregation key value chosen b choice kept =
    let event = given aggregation key value in
    let more = choice_more past chosen event b choice kept in
    let last = get_or-last chosen b false (length past.events) (sym choice.whole) in
    let Q : List Bool → Type 0 = λ c. IsTrue (get_or c (length past.events) false) in (
      (λ t. record { chosen = chosen ++ b ∷ []; choice = more; last = subst IsTrue (sym last) t }),
      (λ k. subst IsTrue last (subst Q
          (one_choice (after past event) k.chosen (chosen ++ b ∷ []) k.choice more) k.last)),
    )
