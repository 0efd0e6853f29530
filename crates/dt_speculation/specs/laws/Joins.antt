-- What the definitions say of events and then others.
use Rattle.std.proofs.Common.{◌≡◌, ℕ, Bool, true, false, ◌&&◌, ◌||◌, eqb, not, List, [], ◌∷◌, ◌++◌, refl, ap, ◌∙◌, if◌then◌else◌}
use Rattle.std.proofs.lemmas.Bool.{or_parts}
use Rattle.dt_speculation.specs.History.{SpecEvent, draw, put_under, free}
use Rattle.dt_speculation.specs.Records.{records_under, records_of}
use Rattle.dt_speculation.specs.Uses.{gives, is_given, is_freed, since_given, is_in_use}

or_assoc : (a b c : Bool) → (a || (b || c)) ≡ ((a || b) || c)
or_assoc true b c = refl
or_assoc false b c = refl

pub is_given-append : (id : ℕ) (earlier later : List SpecEvent)
    → is_given id (earlier ++ later) ≡ (is_given id earlier || is_given id later)
is_given-append id [] later = refl
is_given-append id (draw answer ∷ earlier) later =
    ap (λ b. gives id answer || b) (is_given-append id earlier later)
    ∙ or_assoc (gives id answer) (is_given id earlier) (is_given id later)
is_given-append id (put_under other cpu bytes ∷ earlier) later = is_given-append id earlier later
is_given-append id (free other ∷ earlier) later = is_given-append id earlier later

pub is_freed-append : (id : ℕ) (earlier later : List SpecEvent)
    → is_freed id (earlier ++ later) ≡ (is_freed id earlier || is_freed id later)
is_freed-append id [] later = refl
is_freed-append id (draw answer ∷ earlier) later = is_freed-append id earlier later
is_freed-append id (put_under other cpu bytes ∷ earlier) later = is_freed-append id earlier later
is_freed-append id (free other ∷ earlier) later =
    ap (λ b. eqb other id || b) (is_freed-append id earlier later)
    ∙ or_assoc (eqb other id) (is_freed id earlier) (is_freed id later)

-- nothing came since a draw that isn't there
pub since_none : (id : ℕ) (events : List SpecEvent) → is_given id events ≡ false → since_given id events ≡ []
since_none id [] h = refl
since_none id (draw answer ∷ later) h =
    let none = or_parts (gives id answer) (is_given id later) h in
    rw (none.1, none.0) refl
since_none id (put_under other cpu bytes ∷ later) h = since_none id later h
since_none id (free other ∷ later) h = since_none id later h

-- the last draw is in the later ones, or in the earlier ones, the first of which is it or isn't
branches : (first some last : Bool) (since other earlier later : List SpecEvent)
    → (if some || last then (if last then other else (if some then (since ++ later) else []))
    else (if first then (earlier ++ later) else []))
    ≡ (if last then other else (if first || some then ((if some then since else (if first then earlier else [])) ++ later) else []))
branches true true true since other earlier later = refl
branches true true false since other earlier later = refl
branches true false true since other earlier later = refl
branches true false false since other earlier later = refl
branches false true true since other earlier later = refl
branches false true false since other earlier later = refl
branches false false true since other earlier later = refl
branches false false false since other earlier later = refl

only_later : (last : Bool) (other : List SpecEvent) → (last ≡ false → other ≡ [])
    → other ≡ (if last then other else [])
only_later true other h = refl
only_later false other h = h refl

pub since_given-append : (id : ℕ) (earlier later : List SpecEvent)
    → since_given id (earlier ++ later)
    ≡ (if is_given id later then since_given id later else (if is_given id earlier then (since_given id earlier ++ later) else []))
since_given-append id [] later = only_later (is_given id later) (since_given id later) (since_none id later)
since_given-append id (draw answer ∷ earlier) later =
    rw (is_given-append id earlier later, since_given-append id earlier later)
    (branches (gives id answer) (is_given id earlier) (is_given id later) (since_given id earlier) (since_given id later) earlier later)
since_given-append id (put_under other cpu bytes ∷ earlier) later = since_given-append id earlier later
since_given-append id (free other ∷ earlier) later = since_given-append id earlier later

-- the records of the first event, and of the others
one_more : (b : Bool) (bytes : List ℕ) (xs ys : List (List ℕ))
    → (if b then bytes ∷ (xs ++ ys) else (xs ++ ys)) ≡ (if b then bytes ∷ xs else xs) ++ ys
one_more true bytes xs ys = refl
one_more false bytes xs ys = refl

pub records_under-append : (id cpu : ℕ) (earlier later : List SpecEvent)
    → records_under id cpu (earlier ++ later) ≡ records_under id cpu earlier ++ records_under id cpu later
records_under-append id cpu [] later = refl
records_under-append id cpu (draw answer ∷ earlier) later = records_under-append id cpu earlier later
records_under-append id cpu (put_under other at bytes ∷ earlier) later =
    rw (records_under-append id cpu earlier later)
    (one_more (eqb other id && eqb at cpu) bytes (records_under id cpu earlier) (records_under id cpu later))
records_under-append id cpu (free other ∷ earlier) later = records_under-append id cpu earlier later

either_none : (b : Bool) (none : List SpecEvent) → (if b then none else none) ≡ none
either_none true none = refl
either_none false none = refl

neither : (a b : Bool) → not (a || b) ≡ (not a && not b)
neither true b = refl
neither false b = refl

-- one event alone gives an identifier at its end
since_one : (id : ℕ) (event : SpecEvent) → since_given id (event ∷ []) ≡ []
since_one id (draw answer) = either_none (gives id answer) []
since_one id (put_under other cpu bytes) = refl
since_one id (free other) = refl

-- while it isn't freed, before or now
still : (before now : Bool) (xs ys : List (List ℕ))
    → (if not before && not now then (xs ++ ys) else [])
    ≡ (if not before && not now then ((if not before then xs else []) ++ ys) else [])
still true now xs ys = refl
still false now xs ys = refl

module _ (id : ℕ) (events : List SpecEvent) (event : SpecEvent) where
  -- what came since the last draw, and one event more
  pub since_given-more : since_given id (events ++ event ∷ [])
      ≡ (if is_given id (event ∷ []) then [] else (if is_given id events then (since_given id events ++ event ∷ []) else []))
  since_given-more =
      since_given-append id events (event ∷ [])
      ∙ ap (λ xs. if is_given id (event ∷ []) then xs
      else (if is_given id events then (since_given id events ++ event ∷ []) else [])) (since_one id event)

  used : (last some : Bool) (since : List SpecEvent)
      → ((some || last) && not (is_freed id (if last then [] else (if some then (since ++ event ∷ []) else []))))
      ≡ (last || ((some && not (is_freed id since)) && not (is_freed id (event ∷ []))))
  used true true since = refl
  used true false since = refl
  used false true since = rw (is_freed-append id since (event ∷ [])) (neither (is_freed id since) (is_freed id (event ∷ [])))
  used false false since = refl

  -- An identifier is in use after one event more if that gives it, or if it was and that doesn't free it.
  pub is_in_use-more : is_in_use id (events ++ event ∷ [])
      ≡ (is_given id (event ∷ []) || (is_in_use id events && not (is_freed id (event ∷ []))))
  is_in_use-more =
      rw (is_given-append id events (event ∷ []), since_given-more)
      (used (is_given id (event ∷ [])) (is_given id events) (since_given id events))

  kept : (cpu : ℕ) (last some : Bool) (since : List SpecEvent)
      → (if last || ((some && not (is_freed id since)) && not (is_freed id (event ∷ []))) then
      records_under id cpu (if last then [] else (if some then (since ++ event ∷ []) else [])) else [])
      ≡ (if last then [] else (if (some && not (is_freed id since)) && not (is_freed id (event ∷ [])) then
      ((if some && not (is_freed id since) then records_under id cpu since else []) ++ records_under id cpu (event ∷ [])) else []))
  kept cpu true some since = refl
  kept cpu false true since =
      rw (records_under-append id cpu since (event ∷ []))
      (still (is_freed id since) (is_freed id (event ∷ [])) (records_under id cpu since) (records_under id cpu (event ∷ [])))
  kept cpu false false since = refl

  -- Its records after one event more: none if that gives it, and else those there were and that one's, while it is in use.
  pub records_of-more : (cpu : ℕ) → records_of id cpu (events ++ event ∷ [])
      ≡ (if is_given id (event ∷ []) then [] else (if is_in_use id events && not (is_freed id (event ∷ [])) then
      (records_of id cpu events ++ records_under id cpu (event ∷ [])) else []))
  records_of-more cpu =
      rw (is_given-append id events (event ∷ []), since_given-more)
      (ap (λ b. if b then records_under id cpu (if is_given id (event ∷ []) then [] else (if is_given id events then (since_given id events ++ event ∷ []) else [])) else [])
      (used (is_given id (event ∷ [])) (is_given id events) (since_given id events))
      ∙ kept cpu (is_given id (event ∷ [])) (is_given id events) (since_given id events))
