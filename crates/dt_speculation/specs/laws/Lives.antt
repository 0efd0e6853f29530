-- The life of a draw: until its identifier is freed.
use Rattle.std.proofs.Common.{◌≡◌, ℕ, ◌≤◌, Bool, true, false, ◌||◌, eqb, ltb, not, List, [], ◌∷◌, ◌++◌}
use Rattle.std.proofs.Common.{refl, sym, ap, ◌∙◌, subst, ⊎_elim, if◌then◌else◌, arith}
use Rattle.std.proofs.lemmas.Bool.{and_parts, and_from, cases_Bool, eq-eqb, eqb-true, false≢true, lt-ltb, not_from_false, or_left, or_parts, or_right}
use Rattle.std.proofs.lemmas.List.{append_assoc}
use Rattle.dt_speculation.specs.Answers.{AreAnswered, IsLeastFree}
use Rattle.dt_speculation.specs.History.{SpecEvent, SpecPast, draw, put_under, free}
use Rattle.dt_speculation.specs.Records.{records_under, records_of}
use Rattle.dt_speculation.specs.Uses.{gives, is_given, is_freed, since_given, is_in_use, until_freed}
use Rattle.dt_speculation.specs.laws.Joins.{is_freed-append, is_given-append, since_given-append}

-- What came since the last draw frees nothing that all of it doesn't.
freed_branches : (some first : Bool) (id : ℕ) (since later : List SpecEvent) → is_freed id since ≡ false
    → is_freed id later ≡ false → is_freed id (if some then since else (if first then later else [])) ≡ false
freed_branches true first id since later e h = e
freed_branches false true id since later e h = h
freed_branches false false id since later e h = refl

unfreed_since : (id : ℕ) (events : List SpecEvent) → is_freed id events ≡ false → is_freed id (since_given id events) ≡ false
unfreed_since id [] h = refl
unfreed_since id (draw answer ∷ later) h =
    freed_branches (is_given id later) (gives id answer) id (since_given id later) later (unfreed_since id later h) h
unfreed_since id (put_under other cpu bytes ∷ later) h = unfreed_since id later h
unfreed_since id (free other ∷ later) h = unfreed_since id later (or_parts (eqb other id) (is_freed id later) h).1

-- An identifier that is given is given by a draw that answers it.
record IsGivenAt (id : ℕ) (events : List SpecEvent) : Type 0 where
  before : List SpecEvent
  after : List SpecEvent
  split : events ≡ before ++ draw id ∷ after

later_given : (id : ℕ) (event : SpecEvent) (events : List SpecEvent) → IsGivenAt id events → IsGivenAt id (event ∷ events)
later_given id event events at = record {
  before = event ∷ at.before;
  after = at.after;
  split = ap (λ xs. event ∷ xs) at.split;
}

given_at : (id : ℕ) (events : List SpecEvent) → is_given id events ≡ true → IsGivenAt id events
given_at id [] h = absurd (false≢true h)
given_at id (draw answer ∷ later) h = ⊎_elim
    (λ (e : gives id answer ≡ true). record {
      before = [];
      after = later;
      split = ap (λ n. draw n ∷ later) (eqb-true answer id (and_parts (ltb 0 id) (eqb answer id) e).1);
    })
    (λ (e : gives id answer ≡ false).
    later_given id (draw answer) later (given_at id later (subst (λ b. (b || is_given id later) ≡ true) e h)))
    (cases_Bool (gives id answer))
given_at id (put_under other cpu bytes ∷ later) h = later_given id (put_under other cpu bytes) later (given_at id later h)
given_at id (free other ∷ later) h = later_given id (free other) later (given_at id later h)

gives_own : (id : ℕ) → 1 ≤ id → gives id id ≡ true
gives_own id h = and_from (ltb 0 id) (eqb id id) (lt-ltb 0 id h) (eq-eqb id id refl)

unfreed_choice : (last some : Bool) (id : ℕ) (since earlier after : List SpecEvent) → is_freed id since ≡ false
    → is_freed id after ≡ false → is_freed id (if last then since else (if some then after else [])) ≡ false
unfreed_choice true some id since earlier after e h = e
unfreed_choice false true id since earlier after e h = h
unfreed_choice false false id since earlier after e h = refl

module _ (id : ℕ) (some_id : 1 ≤ id) (earlier later : List SpecEvent) (unfreed : is_freed id later ≡ false) where
  given_there : is_given id (draw id ∷ later) ≡ true
  given_there = or_left (gives id id) (is_given id later) (gives_own id some_id)

  since_there : since_given id (earlier ++ draw id ∷ later) ≡ since_given id (draw id ∷ later)
  since_there =
      since_given-append id earlier (draw id ∷ later)
      ∙ ap (λ b. if b then since_given id (draw id ∷ later)
      else (if is_given id earlier then (since_given id earlier ++ (draw id ∷ later)) else [])) given_there

  -- An identifier is in use after a draw that answers it, until it's freed.
  used_since : is_in_use id (earlier ++ draw id ∷ later) ≡ true
  used_since =
      and_from (is_given id (earlier ++ draw id ∷ later)) (not (is_freed id (since_given id (earlier ++ draw id ∷ later))))
      (is_given-append id earlier (draw id ∷ later) ∙ or_right (is_given id earlier) (is_given id (draw id ∷ later)) given_there)
      (not_from_false (is_freed id (since_given id (earlier ++ draw id ∷ later)))
      (ap (is_freed id) since_there ∙ unfreed_since id (draw id ∷ later) unfreed))

  since_only : is_given id later ≡ false → since_given id (earlier ++ draw id ∷ later) ≡ later
  since_only none =
      since_there
      ∙ ap (λ b. if b then since_given id later else (if gives id id then later else [])) none
      ∙ ap (λ b. if b then later else []) (gives_own id some_id)

module _ (past : SpecPast) (earlier later : List SpecEvent) (id : ℕ) (answered : AreAnswered past)
    (is : past.events ≡ earlier ++ draw id ∷ later) (some_id : 1 ≤ id) (unfreed : is_freed id later ≡ false) where
  -- and no draw answers it again
  not_again : is_given id later ≡ true → ⊥
  not_again h =
      let at = given_at id later h in
      let front = earlier ++ draw id ∷ at.before in
      let whole : past.events ≡ front ++ draw id ∷ at.after =
      is ∙ ap (λ xs. earlier ++ draw id ∷ xs) at.split ∙ sym (append_assoc earlier (draw id ∷ at.before) (draw id ∷ at.after)) in
      let quiet : is_freed id at.before ≡ false =
      (or_parts (is_freed id at.before) (is_freed id (draw id ∷ at.after))
      (sym (is_freed-append id at.before (draw id ∷ at.after)) ∙ sym (ap (is_freed id) at.split) ∙ unfreed)).0 in
      ⊎_elim
      (λ (least : IsLeastFree past.nspec front id).
      false≢true (sym least.free_now ∙ used_since id some_id earlier at.before quiet))
      (λ (none : (id ≡ 0) × ((n : ℕ) → 1 ≤ n → n ≤ past.nspec → is_in_use n front ≡ true)). absurd (omega (arith, none.0)))
      (answered front at.after id whole)

  none_again : is_given id later ≡ false
  none_again = ⊎_elim
      (λ (e : is_given id later ≡ true). absurd (not_again e))
      (λ (e : is_given id later ≡ false). e)
      (cases_Bool (is_given id later))

  pub draw_lasts : (is_in_use id past.events ≡ true)
      × ((cpu : ℕ) → records_of id cpu past.events ≡ records_under id cpu later)
  draw_lasts =
      let used = used_since id some_id earlier later unfreed in (
        ap (is_in_use id) is ∙ used,
        (λ cpu. ap (records_of id cpu) is
            ∙ ap (λ b. if b then records_under id cpu (since_given id (earlier ++ draw id ∷ later)) else []) used
            ∙ ap (records_under id cpu) (since_only id some_id earlier later unfreed none_again)),
      )

-- The events before an identifier is freed
pub until_free : (id : ℕ) (later rest : List SpecEvent) → is_freed id later ≡ false
    → until_freed id (later ++ free id ∷ rest) ≡ later
until_free id [] rest h = ap (λ b. if b then [] else (free id ∷ until_freed id rest)) (eq-eqb id id refl)
until_free id (draw answer ∷ later) rest h = ap (λ xs. draw answer ∷ xs) (until_free id later rest h)
until_free id (put_under other cpu bytes ∷ later) rest h =
    ap (λ xs. put_under other cpu bytes ∷ xs) (until_free id later rest h)
until_free id (free other ∷ later) rest h =
    let parts = or_parts (eqb other id) (is_freed id later) h in
    ap (λ b. if b then [] else (free other ∷ until_freed id (later ++ free id ∷ rest))) parts.0
    ∙ ap (λ xs. free other ∷ xs) (until_free id later rest parts.1)
