-- The longer of two beginnings of a list that only grows, as a life's items are told by it.
use Rattle.std.proofs.Common.{◌≡◌, ◌<◌, ◌≤◌, ◌+◌, ℕ, List, [], ◌∷◌, ◌++◌, length, Bool, true, false, cond, ltb, refl, sym, ap, ◌∙◌, arith, append-nil}
use Rattle.std.proofs.lemmas.List.{length-append}
use Rattle.std.proofs.lemmas.Bool.{ltb-true}
use Rattle.std.proofs.lemmas.Bool.Decides.{nat_tests}
use mathlib.Core.List.{IsPrefix}
use Rattle.dt_facts.specs.Lives.{items_of_life}
use Rattle.dt_facts.specs.declared.fact.LifeItem.{LifeItem}
use Rattle.dt_facts.specs.laws.Beginnings.{prefix_shorter}
use Rattle.dt_facts.specs.laws.Items.{items_begin}
use Rattle.dt_trail.specs.Items.{longer}

empty : {A : Type 0} (xs : List A) → length xs ≡ 0 → xs ≡ []
empty [] e = refl
empty (x ∷ xs) e = absurd (omega arith)

longer_later : {A : Type 0} (xs ys : List A) → IsPrefix xs ys → longer xs ys ≡ ys
longer_later {A} xs ys p = by_case (ltb (length xs) (length ys)) refl
  where
    by_case : (t : Bool) → ltb (length xs) (length ys) ≡ t → cond (ltb (length xs) (length ys)) ys xs ≡ ys
    by_case true e = ap (λ (b : Bool). cond b ys xs) e
    by_case false e =
        let ge : length ys ≤ length xs = grind (arith, nat_tests, e) in
        let whole : length xs + length p.0 ≡ length ys = sym (length-append xs p.0) ∙ ap length p.1 in
        let none : p.0 ≡ [] = empty p.0 (omega (arith, ge, whole)) in
        ap (λ (b : Bool). cond b ys xs) e ∙ sym (append-nil xs) ∙ ap (λ (t : List A). xs ++ t) (sym none) ∙ p.1

longer_earlier : {A : Type 0} (xs ys : List A) → IsPrefix ys xs → longer xs ys ≡ xs
longer_earlier xs ys p = by_case (ltb (length xs) (length ys)) refl
  where
    by_case : (t : Bool) → ltb (length xs) (length ys) ≡ t → cond (ltb (length xs) (length ys)) ys xs ≡ xs
    by_case true e =
        let lt : length xs < length ys = ltb-true (length xs) (length ys) e in
        let whole : length ys + length p.0 ≡ length xs = sym (length-append ys p.0) ∙ ap length p.1 in
        absurd (omega (arith, lt, whole))
    by_case false e = ap (λ (b : Bool). cond b ys xs) e

-- the items of a life in the longer of two beginnings are the longer of theirs
pub items_of_longer : (life : ℕ) (xs ys all : List LifeItem) → IsPrefix xs all → IsPrefix ys all
    → items_of_life life (longer xs ys) ≡ longer (items_of_life life xs) (items_of_life life ys)
items_of_longer life xs ys all a b = by_case (ltb (length xs) (length ys)) refl
  where
    by_case : (t : Bool) → ltb (length xs) (length ys) ≡ t
        → items_of_life life (cond (ltb (length xs) (length ys)) ys xs) ≡ longer (items_of_life life xs) (items_of_life life ys)
    by_case true e =
        let lt : length xs < length ys = ltb-true (length xs) (length ys) e in
        let shorter = prefix_shorter xs ys all a b (omega (arith, lt)) in
        ap (λ (t : Bool). items_of_life life (cond t ys xs)) e
        ∙ sym (longer_later (items_of_life life xs) (items_of_life life ys) (items_begin life xs ys shorter))
    by_case false e =
        let ge : length ys ≤ length xs = grind (arith, nat_tests, e) in
        let shorter = prefix_shorter ys xs all b a ge in
        ap (λ (t : Bool). items_of_life life (cond t ys xs)) e
        ∙ sym (longer_earlier (items_of_life life xs) (items_of_life life ys) (items_begin life ys xs shorter))
