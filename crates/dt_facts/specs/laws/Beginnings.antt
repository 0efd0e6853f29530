-- Beginnings of lists.
use Rattle.std.proofs.Common.{◌≡◌, ◌<◌, ◌≤◌, List, [], ◌∷◌, ◌++◌, length, Bool, true, false, cond, ltb, subst, refl, sym, ap, ◌∙◌, arith, append_assoc, append-nil}
use Rattle.std.proofs.lemmas.Bool.{ltb-true}
use Rattle.std.proofs.lemmas.Bool.Decides.{nat_tests}
use mathlib.Core.List.{IsPrefix}
use Rattle.dt_trail.specs.Items.{longer}

pub prefix_self : {A : Type 0} (xs : List A) → IsPrefix xs xs
prefix_self xs = ([], append-nil xs)

pub prefix_trans : {A : Type 0} (xs ys zs : List A) → IsPrefix xs ys → IsPrefix ys zs → IsPrefix xs zs
prefix_trans xs ys zs p q = (p.0 ++ q.0, sym (append_assoc xs p.0 q.0) ∙ (ap (λ l. l ++ q.0) p.1 ∙ q.1))

-- Of two beginnings of one list the shorter begins the longer.
pub prefix_shorter : {A : Type 0} (xs ys all : List A) → IsPrefix xs all → IsPrefix ys all → length xs ≤ length ys → IsPrefix xs ys
prefix_shorter [] ys all p q le = (ys, refl)
prefix_shorter (x ∷ xs) [] all p q le = absurd (omega arith)
prefix_shorter (x ∷ xs) (y ∷ ys) [] p q le = absurd (cc (p.1))
prefix_shorter (x ∷ xs) (y ∷ ys) (z ∷ all) p q le =
    let heads : x ≡ y = cc (p.1, q.1) in
    let rest = prefix_shorter xs ys all (p.0, cc (p.1)) (q.0, cc (q.1)) (omega arith) in
    (rest.0, cc (heads, rest.1))

-- The longer of two beginnings of one list is one, and begins with both.
pub prefix_longer : {A : Type 0} (xs ys all : List A) → IsPrefix xs all → IsPrefix ys all
    → IsPrefix (longer xs ys) all × IsPrefix xs (longer xs ys) × IsPrefix ys (longer xs ys)
prefix_longer xs ys all a b = by_case (ltb (length xs) (length ys)) refl
  where
    P : Bool → Type 0
    P t = IsPrefix (cond t ys xs) all × IsPrefix xs (cond t ys xs) × IsPrefix ys (cond t ys xs)

    by_case : (t : Bool) → ltb (length xs) (length ys) ≡ t → P (ltb (length xs) (length ys))
    by_case true e = let lt : length xs < length ys = ltb-true (length xs) (length ys) e in
        subst P (sym e) (b, prefix_shorter xs ys all a b (omega arith), prefix_self ys)
    by_case false e = let ge : length ys ≤ length xs = grind (arith, nat_tests, e) in
        subst P (sym e) (a, prefix_self xs, prefix_shorter ys xs all b a ge)
