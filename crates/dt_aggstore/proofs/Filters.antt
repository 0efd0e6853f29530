-- Lists that are filtered.
use Rattle.std.proofs.Common.{◌≡◌, ◌⊎◌, ⊎_elim, inl, inr, Bool, true, false, cond, ◌||◌, List, [], ◌∷◌, refl, sym, ap}
use Rattle.std.proofs.Common.{◌∙◌}
use Rattle.std.specs.Prelude.{map, filter, not}
use Rattle.std.specs.List.{list_any}
use Rattle.std.proofs.lemmas.Bool.{false≢true}

pub yes_or_no : (b : Bool) → (b ≡ true) ⊎ (b ≡ false)
yes_or_no true = inl refl
yes_or_no false = inr refl

pub not_true : (b : Bool) → b ≡ false → not b ≡ true
not_true b e = ap not e

pub not_false : (b : Bool) → b ≡ true → not b ≡ false
not_false b e = ap not e

module _ {X : Type 0} (p : X → Bool) (x : X) (xs : List X) where
  pub filter_yes : p x ≡ true → filter p (x ∷ xs) ≡ x ∷ filter p xs
  filter_yes e = ap (λ b. cond b (x ∷ filter p xs) (filter p xs)) e

  pub filter_no : p x ≡ false → filter p (x ∷ xs) ≡ filter p xs
  filter_no e = ap (λ b. cond b (x ∷ filter p xs) (filter p xs)) e

-- of two filters, where the second keeps all that the first does, the first is left
pub filter_under : {X : Type 0} (p q : X → Bool) → ((x : X) → p x ≡ true → q x ≡ true) → (xs : List X)
    → filter p (filter q xs) ≡ filter p xs
filter_under p q h [] = refl
filter_under p q h (x ∷ xs) = ⊎_elim
    (λ e. ap (filter p) (filter_yes q x xs (h x e)) ∙ filter_yes p x (filter q xs) e
    ∙ ap (λ ys. x ∷ ys) (filter_under p q h xs) ∙ sym (filter_yes p x xs e))
    (λ e. ⊎_elim
    (λ f. ap (filter p) (filter_yes q x xs f) ∙ filter_no p x (filter q xs) e ∙ filter_under p q h xs
    ∙ sym (filter_no p x xs e))
    (λ f. ap (filter p) (filter_no q x xs f) ∙ filter_under p q h xs ∙ sym (filter_no p x xs e))
    (yes_or_no (q x)))
    (yes_or_no (p x))

-- of two filters, where the second keeps nothing that the first does, nothing is left
pub filter_none : {X : Type 0} (p q : X → Bool) → ((x : X) → p x ≡ true → q x ≡ false) → (xs : List X)
    → filter p (filter q xs) ≡ []
filter_none p q h [] = refl
filter_none p q h (x ∷ xs) = ⊎_elim
    (λ e. ap (filter p) (filter_no q x xs (h x e)) ∙ filter_none p q h xs)
    (λ e. ⊎_elim
    (λ f. ap (filter p) (filter_yes q x xs f) ∙ filter_no p x (filter q xs) e ∙ filter_none p q h xs)
    (λ f. ap (filter p) (filter_no q x xs f) ∙ filter_none p q h xs)
    (yes_or_no (q x)))
    (yes_or_no (p x))

-- two filters in turn, either way
pub filter_swap : {X : Type 0} (p q : X → Bool) (xs : List X) → filter p (filter q xs) ≡ filter q (filter p xs)
filter_swap p q [] = refl
filter_swap p q (x ∷ xs) = ⊎_elim
    (λ e. ⊎_elim
    (λ f. ap (filter p) (filter_yes q x xs f) ∙ filter_yes p x (filter q xs) e
    ∙ ap (λ ys. x ∷ ys) (filter_swap p q xs)
    ∙ sym (ap (filter q) (filter_yes p x xs e) ∙ filter_yes q x (filter p xs) f))
    (λ f. ap (filter p) (filter_no q x xs f) ∙ filter_swap p q xs
    ∙ sym (ap (filter q) (filter_yes p x xs e) ∙ filter_no q x (filter p xs) f))
    (yes_or_no (q x)))
    (λ e. ⊎_elim
    (λ f. ap (filter p) (filter_yes q x xs f) ∙ filter_no p x (filter q xs) e ∙ filter_swap p q xs
    ∙ sym (ap (filter q) (filter_no p x xs e)))
    (λ f. ap (filter p) (filter_no q x xs f) ∙ filter_swap p q xs ∙ sym (ap (filter q) (filter_no p x xs e)))
    (yes_or_no (q x)))
    (yes_or_no (p x))

-- what is read off a filtered list, where the test reads the same
pub map-filter : {X Y : Type 0} (f : X → Y) (p : Y → Bool) (xs : List X)
    → map f (filter (λ x. p (f x)) xs) ≡ filter p (map f xs)
map-filter f p [] = refl
map-filter f p (x ∷ xs) = ⊎_elim
    (λ e. ap (map f) (filter_yes (λ y. p (f y)) x xs e) ∙ ap (λ ys. f x ∷ ys) (map-filter f p xs)
    ∙ sym (filter_yes p (f x) (map f xs) e))
    (λ e. ap (map f) (filter_no (λ y. p (f y)) x xs e) ∙ map-filter f p xs ∙ sym (filter_no p (f x) (map f xs) e))
    (yes_or_no (p (f x)))

-- of what passes a test, one passes another exactly where it does in all
pub any_filter : {X : Type 0} (p q : X → Bool) → ((x : X) → p x ≡ true → q x ≡ true) → (xs : List X)
    → list_any p (filter q xs) ≡ list_any p xs
any_filter p q h [] = refl
any_filter p q h (x ∷ xs) = ⊎_elim
    (λ f. ap (list_any p) (filter_yes q x xs f) ∙ ap (λ b. p x || b) (any_filter p q h xs))
    (λ f. ap (list_any p) (filter_no q x xs f) ∙ any_filter p q h xs
    ∙ ⊎_elim (λ e. absurd (false≢true (sym f ∙ h x e))) (λ e. sym (ap (λ b. b || list_any p xs) e))
    (yes_or_no (p x)))
    (yes_or_no (q x))
