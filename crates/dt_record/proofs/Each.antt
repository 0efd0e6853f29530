-- What each of a list gives, one more at the end.
use Rattle.std.proofs.Common.{◌≡◌, ℕ, suc, arith, List, [], ◌∷◌, ◌++◌, Option, Some, None, unwrap_or, refl, length}
use Rattle.std.proofs.Common.{sym, ap, ◌∙◌}
use Rattle.std.specs.Option.{option_map, option_and_then, option_or}
use Rattle.dt_record.specs.Taking.{each}

module _ {A B : Type 0} (f : A → Option B) where
  -- what the list gives, and then one more
  abbrev pub after : Option (List B) → Option B → Option (List B)
  after os p = option_and_then (λ ys. option_map (λ z. ys ++ z ∷ []) p) os

  -- what one gives, and then the list
  abbrev pub before : Option B → Option (List B) → Option (List B)
  before o os = option_and_then (λ y. option_map (λ ys. y ∷ ys) os) o

  exchange : (o : Option B) (os : Option (List B)) (p : Option B) → before o (after os p) ≡ after (before o os) p
  exchange None os p = refl
  exchange (Some y) None p = refl
  exchange (Some y) (Some ys) None = refl
  exchange (Some y) (Some ys) (Some z) = refl

  first : (p : Option B) → before p (Some []) ≡ after (Some []) p
  first None = refl
  first (Some z) = refl

  pub each-snoc : (xs : List A) (x : A) → each f (xs ++ x ∷ []) ≡ after (each f xs) (f x)
  each-snoc [] x = first (f x)
  each-snoc (w ∷ ws) x = ap (before (f w)) (each-snoc ws x) ∙ exchange (f w) (each f ws) (f x)

  -- one more that gives something
  pub each-more : (xs : List A) (ys : List B) (x : A) (y : B) → each f xs ≡ Some ys → f x ≡ Some y
      → each f (xs ++ x ∷ []) ≡ Some (ys ++ y ∷ [])
  each-more xs ys x y h e = each-snoc xs x ∙ ap (λ os. after os (f x)) h ∙ ap (after (Some ys)) e

  nothing : (o : Option B) → before o None ≡ None
  nothing None = refl
  nothing (Some y) = refl

  -- one that gives nothing, whatever comes after it
  pub each-none : (xs : List A) (x : A) (rest : List A) → f x ≡ None → each f (xs ++ x ∷ rest) ≡ None
  each-none [] x rest e = ap (λ o. before o (each f rest)) e
  each-none (w ∷ ws) x rest e = ap (before (f w)) (each-none ws x rest e) ∙ nothing (f w)

-- one before as many
counted : {B : Type 0} {n : ℕ} (o : Option B) (os : Option (List B)) (ys : List B)
    → ((zs : List B) → os ≡ Some zs → length zs ≡ n)
    → option_and_then (λ y. option_map (λ zs. y ∷ zs) os) o ≡ Some ys → length ys ≡ suc n
counted None os ys h e = grind arith
counted (Some y) None ys h e = grind arith
counted (Some y) (Some zs) ys h e = ap (λ l. length (unwrap_or l [])) (sym e) ∙ ap suc (h zs refl)

-- as many as there are
pub each-length : {A B : Type 0} (f : A → Option B) (xs : List A) (ys : List B) → each f xs ≡ Some ys
    → length ys ≡ length xs
each-length f [] ys e = ap (λ l. length (unwrap_or l [])) (sym e)
each-length f (x ∷ xs) ys e = counted (f x) (each f xs) ys (each-length f xs) e

-- nothing in place of nothing
pub or_none : {A : Type 0} (o : Option A) → option_or o None ≡ o
or_none None = refl
or_none (Some x) = refl
