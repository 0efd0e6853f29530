-- Lists of the file, as values and as data.
use Rattle.std.proofs.Common.{◌≡◌, ◌<◌, List, [], ◌∷◌, ◌&&◌, ◌||◌, Bool, true, false, Some, map, length, All, refl}
use Rattle.std.proofs.Common.{sym, ap, ◌∙◌, subst, arith}
use Rattle.std.proofs.lemmas.List.{length-map, get_or-map}
use Rattle.std.proofs.lemmas.List.Elements.{All-cons, All-head, All-tail}
use Rattle.std.specs.Option.{option_map_or}
use Rattle.std.specs.List.{list_all, list_any}
use Rattle.serde_json.specs.Data.{Data}
use Rattle.serde_json.specs.View.{view, items_of as data_items}
use Rattle.serde_json.specs.declared.value.Value.{Value}
use Rattle.dt_machine.specs.Given.{list_of, items, is_list_of}

pub list_of-items : (ds : List Data) → list_of (data_items ds) ≡ ds
list_of-items [] = refl
list_of-items (d ∷ ds) = ap (λ more. d ∷ more) (list_of-items ds)

pub list_all-map : {A B : Type 0} (test : B → Bool) (f : A → B) (xs : List A)
    → list_all test (map f xs) ≡ list_all (λ x. test (f x)) xs
list_all-map test f [] = refl
list_all-map test f (x ∷ xs) = ap (λ more. test (f x) && more) (list_all-map test f xs)

pub all_items : (test : Data → Bool) (d : Data) (values : List Value) (r : Bool) → Some (map view values) ≡ items d
    → r ≡ list_all (λ v. test (view v)) values → r ≡ is_list_of test d
all_items test d values r e ran =
    ran ∙ sym (list_all-map test view values) ∙ ap (λ found. option_map_or (list_all test) found false) e

pub All-unmap : {X Y : Type 0} (P : X → Type 0) (f : Y → X) (ys : List Y) → All P (map f ys) → All (λ y. P (f y)) ys
All-unmap P f ys each k d inside =
    let there : k < length (map f ys) = omega (arith, length-map ys f) in
    subst P (get_or-map f ys k d (f d) inside) (each k (f d) there)

pub list_any-map : {A B : Type 0} (test : B → Bool) (f : A → B) (xs : List A)
    → list_any test (map f xs) ≡ list_any (λ x. test (f x)) xs
list_any-map test f [] = refl
list_any-map test f (x ∷ xs) = ap (λ more. test (f x) || more) (list_any-map test f xs)

or_false : (a b : Bool) → (a || b) ≡ false → (a ≡ false) × (b ≡ false)
or_false true b h = absurd (cc)
or_false false b h = (refl, h)

pub any_false : {A : Type 0} (test : A → Bool) (P : A → Type 0) → ((x : A) → test x ≡ false → P x) → (xs : List A)
    → list_any test xs ≡ false → All P xs
any_false test P fails [] h = λ k d inside. absurd (omega arith)
any_false test P fails (x ∷ xs) h =
    let parts = or_false (test x) (list_any test xs) h in
    All-cons P x xs (fails x parts.0) (any_false test P fails xs parts.1)

or_true : (a b : Bool) {C : Type 0} → (a || b) ≡ true → (a ≡ true → C) → (b ≡ true → C) → C
or_true true b h f g = f refl
or_true false b h f g = g h

pub any_true : {A : Type 0} (test : A → Bool) (P : A → Type 0) → ((x : A) → test x ≡ true → P x → ⊥)
    → (xs : List A) → list_any test xs ≡ true → All P xs → ⊥
any_true test P clash [] h each = cc
any_true test P clash (x ∷ xs) h each =
    or_true (test x) (list_any test xs) h (λ here. clash x here (All-head P x xs each))
    (λ later. any_true test P clash xs later (All-tail P x xs each))
