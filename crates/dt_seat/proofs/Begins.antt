-- Beginnings of lists, in both ways of writing them, and what a session kept of its own lines.
use Rattle.std.proofs.Common.{◌≡◌, ◌≢◌, ◌<◌, ◌≤◌, ◌+◌, ◌==◌, ◌⊎◌, ℕ, Bool, true, false, cond, ne_eqb, List, [], ◌∷◌, ◌++◌, length, ltb, refl, sym, ap, ◌∙◌, subst, arith, eq-eqb, append-nil, append_assoc, inl, inr, ⊎_elim}
use Rattle.std.proofs.lemmas.Bool.{ltb-true}
use Rattle.std.proofs.lemmas.Bool.Decides.{nat_tests}
use Rattle.std.proofs.lemmas.List.{length-append}
use Rattle.std.proofs.lemmas.List.Elements.{filter-append}
use mathlib.Core.List.{IsPrefix}
use Rattle.dt_facts.specs.laws.Beginnings.{prefix_shorter}
use Rattle.dt_legal.specs.laws.Starts.{own_both, own_here, rest_has_none}
use Rattle.dt_seat.specs.Sessions.{line_kept, lines_from}
use Rattle.dt_seat.specs.declared.line_kept.LineKept.{LineKept}
use Rattle.dt_trail.specs.Items.{StartsWith, TrailItem, own, whose}
use Rattle.dt_trail.specs.Known.{Meets, Noted}

pub as_prefix : (row known : List TrailItem) → StartsWith row known → IsPrefix known row
as_prefix row known s = (s.0, sym s.1)

pub as_start : (row known : List TrailItem) → IsPrefix known row → StartsWith row known
as_start row known p = (p.0, sym p.1)

lines_both : (place : ℕ) (xs ys : List TrailItem) → lines_from place (xs ++ ys) ≡ lines_from place xs ++ lines_from (place + length xs) ys
lines_both place [] ys = ap (λ (n : ℕ). lines_from n ys) (omega arith)
lines_both place (x ∷ xs) ys =
    ap (λ (l : List LineKept). cond (whose x == 0) (line_kept place x ∷ l) l)
    (lines_both (place + 1) xs ys ∙ ap (λ (n : ℕ). lines_from (place + 1) xs ++ lines_from n ys) (omega arith))
    ∙ apart (whose x == 0) (lines_from (place + 1) xs) (lines_from (place + length (x ∷ xs)) ys)
  where
    apart : (b : Bool) (us vs : List LineKept)
        → cond b (line_kept place x ∷ (us ++ vs)) (us ++ vs) ≡ cond b (line_kept place x ∷ us) us ++ vs
    apart true us vs = refl
    apart false us vs = refl

lines_none : (place : ℕ) (xs : List TrailItem) → own 0 xs ≡ [] → lines_from place xs ≡ []
lines_none place [] e = refl
lines_none place (x ∷ xs) e = by_test (lines_none (place + 1) xs) (whose x == 0) refl
  where
    by_test : (own 0 xs ≡ [] → lines_from (place + 1) xs ≡ []) → (b : Bool) → (whose x == 0) ≡ b → cond (whose x == 0) (line_kept place x ∷ lines_from (place + 1) xs) (lines_from (place + 1) xs) ≡ []
    by_test none true is =
        let bad : x ∷ own 0 xs ≡ [] = sym (ap (λ (b : Bool). cond b (x ∷ own 0 xs) (own 0 xs)) is) ∙ e in
        absurd (cc bad)
    by_test none false is =
        let rest : own 0 xs ≡ [] = sym (ap (λ (b : Bool). cond b (x ∷ own 0 xs) (own 0 xs)) is) ∙ e in
        ap (λ (b : Bool). cond b (line_kept place x ∷ lines_from (place + 1) xs) (lines_from (place + 1) xs)) is
        ∙ none rest

-- a list that goes on without a further line has the lines that it had
pub lines_met : (row known : List TrailItem) → StartsWith row known → own 0 row ≡ own 0 known → lines_from 0 row ≡ lines_from 0 known
lines_met row known s same =
    ap (lines_from 0) s.1
    ∙ lines_both 0 known s.0
    ∙ ap (λ (l : List LineKept). lines_from 0 known ++ l) (lines_none (0 + length known) s.0 (rest_has_none 0 row known s same))
    ∙ append-nil (lines_from 0 known)

-- a note that has met its trail has the lines that it had
pub lines_of_met : {K : Type 0} (note : Noted K) (items : List TrailItem) → note.number ≡ 0 → Meets items note → lines_from 0 items ≡ lines_from 0 note.knows
lines_of_met note items first met =
    lines_met items note.knows met.0 (subst (λ (n : ℕ). own n items ≡ own n note.knows) first met.1)

-- and one more, where that is a line
pub lines_more : (row : List TrailItem) (item : TrailItem) → whose item ≡ 0
    → lines_from 0 (row ++ item ∷ []) ≡ lines_from 0 row ++ line_kept (length row) item ∷ []
lines_more row item mine =
    lines_both 0 row (item ∷ [])
    ∙ ap (λ (l : List LineKept). lines_from 0 row ++ l) (at_end ∙ one)
  where
    at_end : lines_from (0 + length row) (item ∷ []) ≡ lines_from (length row) (item ∷ [])
    at_end = ap (λ (n : ℕ). lines_from n (item ∷ [])) (omega arith)

    one : lines_from (length row) (item ∷ []) ≡ line_kept (length row) item ∷ []
    one = ap (λ (b : Bool). cond b (line_kept (length row) item ∷ []) []) (eq-eqb (whose item) 0 mine)

more_own : (note : ℕ) (before : List TrailItem) (item : TrailItem) (rest : List TrailItem) → whose item ≡ note
    → length (own note ((before ++ item ∷ []) ++ rest)) ≡ length (own note before) + 1 + length (own note rest)
more_own note before item rest mine =
    ap length (ap (own note) (append_assoc before (item ∷ []) rest) ∙ own_both note before (item ∷ rest))
    ∙ length-append (own note before) (own note (item ∷ rest))
    ∙ ap (λ (l : List TrailItem). length (own note before) + length l) (own_here note item rest mine)
    ∙ omega arith

-- an own item that a list has stood in a beginning of it that has all its own items
pub stood_before : (note : ℕ) (row known before : List TrailItem) (item : TrailItem) → StartsWith row known → own note row ≡ own note known
    → StartsWith row (before ++ item ∷ []) → whose item ≡ note → StartsWith known (before ++ item ∷ [])
stood_before note row known before item s same at mine = by_length (ltb (length known) (length (before ++ item ∷ []))) refl
  where
    here : length (before ++ item ∷ []) ≡ length before + 1
    here = length-append before (item ∷ [])

    by_length : (b : Bool) → ltb (length known) (length (before ++ item ∷ [])) ≡ b → StartsWith known (before ++ item ∷ [])
    by_length true e =
        let lt : length known < length (before ++ item ∷ []) = ltb-true _ _ e in
        let whole : IsPrefix before row = (item ∷ at.0, sym (at.1 ∙ append_assoc before (item ∷ []) at.0)) in
        let shorter : IsPrefix known before = prefix_shorter known before row (as_prefix row known s) whole (omega (arith, lt, here)) in
        let parts : length (own note before) ≡ length (own note known) + length (own note shorter.0) =
        ap length (ap (own note) (sym shorter.1) ∙ own_both note known shorter.0) ∙ length-append (own note known) (own note shorter.0) in
        let counted : length (own note row) ≡ length (own note before) + 1 + length (own note at.0) =
        ap (λ (l : List TrailItem). length (own note l)) at.1 ∙ more_own note before item at.0 mine in
        let equal : length (own note row) ≡ length (own note known) = ap length same in
        absurd (omega (arith, parts, counted, equal))
    by_length false e =
        let ge : length (before ++ item ∷ []) ≤ length known = grind (arith, nat_tests, e) in
        as_start known (before ++ item ∷ [])
        (prefix_shorter (before ++ item ∷ []) known row (as_prefix row (before ++ item ∷ []) at) (as_prefix row known s) ge)

-- a beginning of a list with one item more is one of the list, or the whole
pub within_or_last : (row before : List TrailItem) (last item : TrailItem) → StartsWith (row ++ last ∷ []) (before ++ item ∷ [])
    → StartsWith row (before ++ item ∷ []) ⊎ ((before ≡ row) × (item ≡ last))
within_or_last [] [] last item s = inr (refl, cc (s.1))
within_or_last [] (b ∷ before) last item s =
    let long : length (last ∷ []) ≡ length ((b ∷ before ++ item ∷ []) ++ s.0) = ap length s.1 in
    let whole = length-append (b ∷ before ++ item ∷ []) s.0 in
    let part = length-append before (item ∷ []) in
    absurd (omega (arith, long, whole, part))
within_or_last (x ∷ row) [] last item s = inl (row, cc (s.1))
within_or_last (x ∷ row) (b ∷ before) last item s =
    let heads : x ≡ b = cc (s.1) in
    ⊎_elim
    (λ (t : StartsWith row (before ++ item ∷ [])). inl (t.0, cc (heads, t.1)))
    (λ (t : (before ≡ row) × (item ≡ last)). inr (cc (heads, t.0), t.1))
    (within_or_last row before last item (s.0, cc (s.1)))

-- an item of another note adds nothing to a note's own
pub own_of_other : (note : ℕ) (row : List TrailItem) (item : TrailItem) → whose item ≢ note
    → own note (row ++ item ∷ []) ≡ own note row
own_of_other note row item other =
    filter-append (λ x. whose x == note) row (item ∷ [])
    ∙ ap (λ (b : Bool). own note row ++ cond b (item ∷ []) []) (ne_eqb (whose item) note other)
    ∙ append-nil (own note row)
