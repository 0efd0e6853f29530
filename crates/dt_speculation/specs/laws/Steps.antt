-- What one event does to each identifier, to its records on each processor, and to the failed draws.
use Rattle.std.proofs.Common.{◌≡◌, ℕ, zero, suc, ◌+◌, ◌≤◌, ◌⊎◌, Bool, true, false, ◌&&◌, ◌||◌, eqb, ltb, not, List, [], ◌∷◌, ◌++◌, length}
use Rattle.std.proofs.Common.{refl, sym, ap, ◌∙◌, subst, inl, inr, ⊎_elim, if◌then◌else◌, arith}
use Rattle.std.proofs.lemmas.Bool.{eq-eqb, ne_eqb, lt-ltb, and_left, and_right, false≢true}
use Rattle.std.proofs.lemmas.List.{append-nil, length-append}
use Rattle.dt_speculation.specs.Answers.{AreAnswered, DrawAnswers, failed_draws}
use Rattle.dt_speculation.specs.History.{SpecEvent, SpecPast, draw, put_under, free, spec_after}
use Rattle.dt_speculation.specs.Records.{records_under, records_of, put_to}
use Rattle.dt_speculation.specs.Uses.{gives, is_given, is_freed, since_given, is_in_use}
use Rattle.dt_speculation.specs.laws.Joins.{is_in_use-more, records_of-more}

no_records : (b : Bool) (xs : List (List ℕ)) → b ≡ false → (if b then xs else []) ≡ []
no_records true xs e = absurd (false≢true (sym e))
no_records false xs e = refl

-- an identifier that isn't in use has no records
pub records_unused : (id cpu : ℕ) (events : List SpecEvent) → is_in_use id events ≡ false → records_of id cpu events ≡ []
records_unused id cpu events e = no_records (is_in_use id events) (records_under id cpu (since_given id events)) e

stays : (u g f : Bool) → g ≡ false → f ≡ false → (g || (u && not f)) ≡ u
stays true false false e h = refl
stays false false false e h = refl
stays u true f e h = absurd (false≢true (sym e))
stays u false true e h = absurd (false≢true (sym h))

grows : (u g f : Bool) (xs ys : List (List ℕ)) → g ≡ false → f ≡ false
    → (if g then [] else (if u && not f then (xs ++ ys) else [])) ≡ (if u then (xs ++ ys) else [])
grows true false false xs ys e h = refl
grows false false false xs ys e h = refl
grows u true f xs ys e h = absurd (false≢true (sym e))
grows u false true xs ys e h = absurd (false≢true (sym h))

as_before : (u : Bool) (xs ys : List (List ℕ)) → ys ≡ [] → (u ≡ false → xs ≡ []) → (if u then (xs ++ ys) else []) ≡ xs
as_before true xs ys e none = ap (λ zs. xs ++ zs) e ∙ append-nil xs
as_before false xs ys e none = sym (none refl)

-- An event that neither gives an identifier nor frees it
module _ (id : ℕ) (events : List SpecEvent) (event : SpecEvent) (given : is_given id (event ∷ []) ≡ false)
    (freed : is_freed id (event ∷ []) ≡ false) where
  pub use_stays : is_in_use id (events ++ event ∷ []) ≡ is_in_use id events
  use_stays =
      is_in_use-more id events event
      ∙ stays (is_in_use id events) (is_given id (event ∷ [])) (is_freed id (event ∷ [])) given freed

  pub records_grow : (cpu : ℕ) → records_of id cpu (events ++ event ∷ [])
      ≡ (if is_in_use id events then (records_of id cpu events ++ records_under id cpu (event ∷ [])) else [])
  records_grow cpu =
      records_of-more id events event cpu
      ∙ grows (is_in_use id events) (is_given id (event ∷ [])) (is_freed id (event ∷ [])) (records_of id cpu events)
      (records_under id cpu (event ∷ [])) given freed

  pub records_stay : (cpu : ℕ) → records_under id cpu (event ∷ []) ≡ []
      → records_of id cpu (events ++ event ∷ []) ≡ records_of id cpu events
  records_stay cpu none =
      records_grow cpu
      ∙ as_before (is_in_use id events) (records_of id cpu events) (records_under id cpu (event ∷ [])) none
      (records_unused id cpu events)

-- A draw
or_none : (b c : Bool) → b ≡ c → (b || false) ≡ c
or_none true c e = e
or_none false c e = e

gives_some : (id : ℕ) → 1 ≤ id → gives id id ≡ true
gives_some id h = rw (lt-ltb 0 id h, eq-eqb id id refl) refl

pub gives_other : (id answer : ℕ) → (answer ≡ id → ⊥) → gives id answer ≡ false
gives_other id answer differs = and_right (ltb 0 id) (eqb answer id) (ne_eqb answer id differs)

pub gives_none : (id : ℕ) → gives id 0 ≡ false
gives_none zero = refl
gives_none (suc id) = gives_other (suc id) 0 (λ e. absurd (omega arith))

given_use : (u g f : Bool) → g ≡ true → (g || (u && not f)) ≡ true
given_use u true f e = refl
given_use u false f e = absurd (false≢true e)

given_records : (g : Bool) (xs : List (List ℕ)) → g ≡ true → (if g then [] else xs) ≡ []
given_records true xs e = refl
given_records false xs e = absurd (false≢true e)

module _ (id : ℕ) (events : List SpecEvent) where
  -- A draw that gives the identifier puts it in use, without records.
  pub drawn_use : 1 ≤ id → is_in_use id (events ++ draw id ∷ []) ≡ true
  drawn_use h =
      is_in_use-more id events (draw id)
      ∙ given_use (is_in_use id events) (is_given id (draw id ∷ [])) (is_freed id (draw id ∷ []))
      (or_none (gives id id) true (gives_some id h))

  pub drawn_records : (cpu : ℕ) → 1 ≤ id → records_of id cpu (events ++ draw id ∷ []) ≡ []
  drawn_records cpu h =
      records_of-more id events (draw id) cpu
      ∙ given_records (is_given id (draw id ∷ [])) _ (or_none (gives id id) true (gives_some id h))

  -- A draw that gives another, or fails, leaves it as it was.
  pub draw_use : (answer : ℕ) → gives id answer ≡ false → is_in_use id (events ++ draw answer ∷ []) ≡ is_in_use id events
  draw_use answer other = use_stays id events (draw answer) (or_none (gives id answer) false other) refl

  pub draw_records : (answer cpu : ℕ) → gives id answer ≡ false
      → records_of id cpu (events ++ draw answer ∷ []) ≡ records_of id cpu events
  draw_records answer cpu other =
      records_stay id events (draw answer) (or_none (gives id answer) false other) refl cpu refl

-- A put
one_record : (b : Bool) (bytes : List ℕ) → b ≡ false → (if b then bytes ∷ [] else []) ≡ []
one_record true bytes e = absurd (false≢true (sym e))
one_record false bytes e = refl

chosen : (b : Bool) (xs : List (List ℕ)) (bytes : List ℕ)
    → (xs ++ (if b then bytes ∷ [] else [])) ≡ (if b then (xs ++ bytes ∷ []) else xs)
chosen true xs bytes = refl
chosen false xs bytes = append-nil xs

put_there : (u there : Bool) (at cpu : ℕ) (bytes : List ℕ) (records : ℕ → List (List ℕ)) → there ≡ true
    → (u ≡ false → records cpu ≡ [])
    → (if u then (records cpu ++ (if there && eqb at cpu then bytes ∷ [] else [])) else [])
    ≡ (if u then put_to at bytes records else records) cpu
put_there true true at cpu bytes records e none = chosen (eqb at cpu) (records cpu) bytes
put_there false there at cpu bytes records e none = sym (none refl)
put_there true false at cpu bytes records e none = absurd (false≢true e)

module _ (id : ℕ) (events : List SpecEvent) where
  pub put_use : (other at : ℕ) (bytes : List ℕ) → is_in_use id (events ++ put_under other at bytes ∷ []) ≡ is_in_use id events
  put_use other at bytes = use_stays id events (put_under other at bytes) refl refl

  -- A put under another identifier leaves the records as they were.
  pub put_other : (other at cpu : ℕ) (bytes : List ℕ) → (other ≡ id → ⊥)
      → records_of id cpu (events ++ put_under other at bytes ∷ []) ≡ records_of id cpu events
  put_other other at cpu bytes differs =
      records_stay id events (put_under other at bytes) refl refl cpu
      (one_record (eqb other id && eqb at cpu) bytes (and_left (eqb other id) (eqb at cpu) (ne_eqb other id differs)))

  -- A put under the identifier, if that is in use, makes its records on that processor one longer, and no others.
  pub put_own : (at cpu : ℕ) (bytes : List ℕ) → records_of id cpu (events ++ put_under id at bytes ∷ [])
      ≡ (if is_in_use id events then put_to at bytes (λ c. records_of id c events) else (λ c. records_of id c events)) cpu
  put_own at cpu bytes =
      records_grow id events (put_under id at bytes) refl refl cpu
      ∙ put_there (is_in_use id events) (eqb id id) at cpu bytes (λ c. records_of id c events) (eq-eqb id id refl)
      (records_unused id cpu events)

-- A free
freed_use : (u g f : Bool) → g ≡ false → f ≡ true → (g || (u && not f)) ≡ false
freed_use true false true e h = refl
freed_use false false true e h = refl
freed_use u true f e h = absurd (false≢true (sym e))
freed_use u false false e h = absurd (false≢true h)

module _ (id : ℕ) (events : List SpecEvent) where
  -- A freed identifier isn't in use, and so has no records.
  pub free_own : is_in_use id (events ++ free id ∷ []) ≡ false
  free_own =
      is_in_use-more id events (free id)
      ∙ freed_use (is_in_use id events) false (is_freed id (free id ∷ [])) refl (or_none (eqb id id) true (eq-eqb id id refl))

  pub free_use : (other : ℕ) → (other ≡ id → ⊥) → is_in_use id (events ++ free other ∷ []) ≡ is_in_use id events
  free_use other differs = use_stays id events (free other) refl (or_none (eqb other id) false (ne_eqb other id differs))

  pub free_records : (other cpu : ℕ) → (other ≡ id → ⊥)
      → records_of id cpu (events ++ free other ∷ []) ≡ records_of id cpu events
  free_records other cpu differs =
      records_stay id events (free other) refl (or_none (eqb other id) false (ne_eqb other id differs)) cpu refl

-- 0 is no identifier: no draw gives it
zero_given : (events : List SpecEvent) → is_given 0 events ≡ false
zero_given [] = refl
zero_given (draw answer ∷ later) = zero_given later
zero_given (put_under other cpu bytes ∷ later) = zero_given later
zero_given (free other ∷ later) = zero_given later

pub zero_unused : (events : List SpecEvent) → is_in_use 0 events ≡ false
zero_unused events = and_left (is_given 0 events) (not (is_freed 0 (since_given 0 events))) (zero_given events)

counted : (b : Bool) (m n : ℕ) → (if b then ((m + n) + 1) else (m + n)) ≡ (if b then (m + 1) else m) + n
counted true m n = omega arith
counted false m n = refl

-- how many draws failed
pub failed_draws-more : (events : List SpecEvent) (event : SpecEvent)
    → failed_draws (events ++ event ∷ []) ≡ failed_draws events + failed_draws (event ∷ [])
failed_draws-more [] event = omega arith
failed_draws-more (draw answer ∷ events) event =
    rw (failed_draws-more events event) (counted (eqb answer 0) (failed_draws events) (failed_draws (event ∷ [])))
failed_draws-more (put_under id cpu bytes ∷ events) event = failed_draws-more events event
failed_draws-more (free id ∷ events) event = failed_draws-more events event

-- The last event of a list is the one in question, or that stands before it.
last_split : (events earlier later : List SpecEvent) (event one : SpecEvent) → events ++ event ∷ [] ≡ earlier ++ one ∷ later
    → ((events ≡ earlier) × (event ≡ one)) ⊎ ((rest : List SpecEvent) × (events ≡ earlier ++ one ∷ rest))
last_split [] [] later event one h = inl (refl, cc)
last_split [] (x ∷ earlier) later event one h =
    absurd (omega (arith, ap length h, length-append earlier (one ∷ later)))
last_split (y ∷ events) [] later event one h = inr (events, cc)
last_split (y ∷ events) (x ∷ earlier) later event one h =
    let tail : events ++ event ∷ [] ≡ earlier ++ one ∷ later = cc in
    let head : y ≡ x = cc in
    ⊎_elim
    (λ (both : (events ≡ earlier) × (event ≡ one)). inl (ap (λ xs. y ∷ xs) both.0 ∙ ap (λ z. z ∷ earlier) head, both.1))
    (λ (found : (rest : List SpecEvent) × (events ≡ earlier ++ one ∷ rest)). inr (
      found.0,
      ap (λ xs. y ∷ xs) found.1 ∙ ap (λ z. z ∷ (earlier ++ one ∷ found.0)) head,
    ))
    (last_split events earlier later event one tail)

-- A past stays answered where the next draw, if it is one, answers what it has to.
pub answered_more : (past : SpecPast) (event : SpecEvent) → AreAnswered past
    → ((answer : ℕ) → event ≡ draw answer → DrawAnswers past.nspec past.events answer) → AreAnswered (spec_after past event)
answered_more past event before now = λ earlier later answer split.
    let P : List SpecEvent → Type 0 = λ events. DrawAnswers past.nspec events answer in
    ⊎_elim
    (λ (both : (past.events ≡ earlier) × (event ≡ draw answer)). subst P both.0 (now answer both.1))
    (λ (found : (rest : List SpecEvent) × (past.events ≡ earlier ++ draw answer ∷ rest)).
    before earlier found.0 answer found.1)
    (last_split past.events earlier later event (draw answer) split)
