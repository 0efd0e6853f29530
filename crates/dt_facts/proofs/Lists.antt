-- Beginnings of lists, and lists with a new last element.
use Rattle.std.proofs.Common.{◌≡◌, ◌⊎◌, ℕ, zero, suc, List, [], ◌∷◌, ◌++◌, length, refl, sym, inl, inr, ⊎_elim, arith}
use mathlib.Core.Option.{some, some-ne-none, some-injective}
use lib.ListN.{get_elem?}
use Rattle.dt_facts.specs.declared.fact.GrowingLists.{GrowingLists}
use Rattle.dt_facts.specs.Facts.{no_lists, HaveGrown, longer_lists}
use Rattle.dt_facts.specs.laws.Beginnings.{prefix_self, prefix_trans, prefix_longer}

pub grown_self : (xs : GrowingLists) → HaveGrown xs xs
grown_self xs = (prefix_self xs.writes, prefix_self xs.items, prefix_self xs.lives)

pub grown_from_none : (xs : GrowingLists) → HaveGrown no_lists xs
grown_from_none xs = ((xs.writes, refl), (xs.items, refl), (xs.lives, refl))

pub grown_trans : (xs ys zs : GrowingLists) → HaveGrown xs ys → HaveGrown ys zs → HaveGrown xs zs
grown_trans xs ys zs p q = (
  prefix_trans xs.writes ys.writes zs.writes p.0 q.0,
  prefix_trans xs.items ys.items zs.items p.1 q.1,
  prefix_trans xs.lives ys.lives zs.lives p.2 q.2,
)

-- of two beginnings of what only grows, the longer is one, and begins with both
pub grown_longer : (xs ys all : GrowingLists) → HaveGrown xs all → HaveGrown ys all
    → HaveGrown (longer_lists xs ys) all × HaveGrown xs (longer_lists xs ys) × HaveGrown ys (longer_lists xs ys)
grown_longer xs ys all a b =
    let w = prefix_longer xs.writes ys.writes all.writes a.0 b.0 in
    let i = prefix_longer xs.items ys.items all.items a.1 b.1 in
    let l = prefix_longer xs.lives ys.lives all.lives a.2 b.2 in
    ((w.0, i.0, l.0), (w.1, i.1, l.1), (w.2, i.2, l.2))

-- the new seat is the last
pub at_snoc_at : {A : Type 0} (l : List A) (a b : A) (j : ℕ) → get_elem? (l ++ a ∷ []) j ≡ some b → (get_elem? l j ≡ some b) ⊎ ((j ≡ length l) × (a ≡ b))
at_snoc_at [] a b zero e = inr (refl, some-injective a b e)
at_snoc_at [] a b (suc j) e = absurd (some-ne-none b (sym e))
at_snoc_at (x ∷ xs) a b zero e = inl e
at_snoc_at (x ∷ xs) a b (suc j) e = ⊎_elim (λ t. inl t) (λ (t : (j ≡ length xs) × (a ≡ b)). inr (omega arith, t.1)) (at_snoc_at xs a b j e)
