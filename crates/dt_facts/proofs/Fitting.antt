-- Which views fit, and that all still fit where one has changed.
use Rattle.std.proofs.Common.{◌≡◌, ◌≢◌, ℕ, ◌<◌, List, [], ◌∷◌, ◌++◌, length, set, Bool, true, false, true≢false, cond, eqb, refl, sym, ap, ◌∙◌, subst, ⊎_elim, length-set, eq-eqb, ne_eqb}
use mathlib.Core.Option.{some}
use lib.ListN.{get_elem?}
use Rattle.atomic_table.proofs.Lists.{at_set}
use Rattle.dt_facts.specs.declared.fact.Fact.{Fact}
use Rattle.dt_facts.specs.declared.fact.GrowingLists.{GrowingLists}
use Rattle.dt_facts.specs.declared.rule.FactView.{FactView}
use Rattle.dt_facts.specs.Facts.{lists_in, HaveGrown}
use Rattle.dt_facts.specs.Rule.{Roll, share, book, both, both_unchecked, lists_begun, lists_told, book_begun, maker_view, no_view, FitsRoll, EachFitsRoll}
use Rattle.dt_facts.proofs.Lists.{grown_from_none, at_snoc_at}

off : false ≡ true → ⊥
off e = true≢false (sym e)

-- at all names but one
pub moved_off : {A : Type 0} (at : ℕ → A) (n k : ℕ) (z : A) → k ≢ n → cond (eqb k n) z (at k) ≡ at k
moved_off at n k z ne = ap (λ (b : Bool). cond b z (at k)) (ne_eqb k n ne)

-- at this name
pub moved_on : {A : Type 0} (at : ℕ → A) (n : ℕ) (z : A) → cond (eqb n n) z (at n) ≡ z
moved_on at n z = ap (λ (b : Bool). cond b z (at n)) (eq-eqb n n refl)

pub there_before : (views : List FactView) (id other : ℕ) (w v : FactView) → (other ≡ id → ⊥) → get_elem? (set views id w) other ≡ some v → get_elem? views other ≡ some v
there_before views id other w v apart e =
    ⊎_elim (λ (x : (other ≡ id) × (w ≡ v)). absurd (apart x.0)) (λ (x : (other ≢ id) × (get_elem? views other ≡ some v)). x.1) (at_set views id other w v e)

module _ (w : Roll) where
  abbrev pub IsShareAt : ℕ → ℕ → Fact → Type 0
  IsShareAt by n x = (w.share_at n ≡ by) × (x ≡ w.held n) × (n < w.made)

  abbrev pub IsBookAt : ℕ → ℕ → Fact → Type 0
  IsBookAt by n x = (w.book_at n ≡ by) × (x ≡ w.held n) × (n < w.made)

  abbrev pub IsBegunAt : ℕ → GrowingLists → Type 0
  IsBegunAt n ws = HaveGrown ws (lists_in (w.held n)) × (n < w.made)

  pub fits_nobody : (by : ℕ) → FitsRoll w by no_view
  fits_nobody by = record { share = λ c. absurd (off c); book = λ c. absurd (off c); met = λ c. absurd (off c); begins = λ c. absurd (off c); told = λ c. absurd (off c); makes = λ c. absurd (off c) }

  pub fits_maker : (by : ℕ) → w.maker_at ≡ by → FitsRoll w by (maker_view w.made)
  fits_maker by e = record { share = λ c. absurd (off c); book = λ c. absurd (off c); met = λ c. absurd (off c); begins = λ c. absurd (off c); told = λ c. absurd (off c); makes = λ _. (e, refl) }

  pub fits_share : (by n : ℕ) (x : Fact) → IsShareAt by n x → FitsRoll w by (share n x)
  fits_share by n x s = record { share = λ _. s; book = λ c. absurd (off c); met = λ c. absurd (off c); begins = λ c. absurd (off c); told = λ c. absurd (off c); makes = λ c. absurd (off c) }

  pub fits_book : (by n : ℕ) (x : Fact) → IsBookAt by n x → FitsRoll w by (book n x)
  fits_book by n x b = record { share = λ c. absurd (off c); book = λ _. b; met = λ c. absurd (off c); begins = λ c. absurd (off c); told = λ c. absurd (off c); makes = λ c. absurd (off c) }

  pub fits_both : (by n : ℕ) (x : Fact) → IsShareAt by n x → IsBookAt by n x → FitsRoll w by (both n x)
  fits_both by n x s b = record { share = λ _. s; book = λ _. b; met = λ c. absurd (off c); begins = λ c. absurd (off c); told = λ c. absurd (off c); makes = λ c. absurd (off c) }

  pub fits_joined : (by n : ℕ) (x y : Fact) → IsShareAt by n x → IsBookAt by n x → y ≡ w.held n → FitsRoll w by (both_unchecked n x y)
  fits_joined by n x y s b h = record { share = λ _. s; book = λ _. b; met = λ _. (refl, h); begins = λ c. absurd (off c); told = λ c. absurd (off c); makes = λ c. absurd (off c) }

  pub fits_beginning : (by n : ℕ) (ws : GrowingLists) → IsBegunAt n ws → FitsRoll w by (lists_begun n ws)
  fits_beginning by n ws h = record { share = λ c. absurd (off c); book = λ c. absurd (off c); met = λ c. absurd (off c); begins = λ _. h; told = λ _. grown_from_none (lists_in (w.held n)); makes = λ c. absurd (off c) }

  pub fits_informed : (by n : ℕ) (ws us : GrowingLists) → IsBegunAt n ws → HaveGrown us (lists_in (w.held n)) → FitsRoll w by (lists_told n ws us)
  fits_informed by n ws us h t = record { share = λ c. absurd (off c); book = λ c. absurd (off c); met = λ c. absurd (off c); begins = λ _. h; told = λ _. t; makes = λ c. absurd (off c) }

  pub fits_opened : (by n : ℕ) (x : Fact) (ws : GrowingLists) → IsBookAt by n x → IsBegunAt n ws → FitsRoll w by (book_begun n x ws)
  fits_opened by n x ws b h = record { share = λ c. absurd (off c); book = λ _. b; met = λ c. absurd (off c); begins = λ _. h; told = λ _. grown_from_none (lists_in (w.held n)); makes = λ c. absurd (off c) }

  -- one view is changed, and the others still fit
  pub fits_set : (views : List FactView) (id : ℕ) (v : FactView)
      → ((j : ℕ) (u : FactView) → j ≢ id → get_elem? views j ≡ some u → FitsRoll w j u) → FitsRoll w id v
      → EachFitsRoll w (set views id v)
  fits_set views id v others mine j u e =
      ⊎_elim
      (λ (x : (j ≡ id) × (v ≡ u)). subst (λ (y : ℕ × FactView). FitsRoll w y.0 y.1) (λ i. (sym x.0 i, x.1 i)) mine)
      (λ (x : (j ≢ id) × (get_elem? views j ≡ some u)). others j u x.0 x.1)
      (at_set views id j v u e)

  -- one view is changed and one is new
  pub fits_split : (views : List FactView) (id : ℕ) (v n : FactView)
      → ((j : ℕ) (u : FactView) → j ≢ id → get_elem? views j ≡ some u → FitsRoll w j u) → FitsRoll w id v → FitsRoll w (length views) n
      → EachFitsRoll w (set views id v ++ n ∷ [])
  fits_split views id v n others mine new j u e =
      ⊎_elim
      (λ (x : get_elem? (set views id v) j ≡ some u). fits_set views id v others mine j u x)
      (λ (x : (j ≡ length (set views id v)) × (n ≡ u)). subst (λ (y : ℕ × FactView). FitsRoll w y.0 y.1) (λ i. (sym (x.0 ∙ length-set views id v) i, x.1 i)) new)
      (at_snoc_at (set views id v) n u j e)

  -- one view is changed and one is spent
  pub fits_join : (views : List FactView) (id other : ℕ) (v : FactView)
      → ((j : ℕ) (u : FactView) → j ≢ id → j ≢ other → get_elem? views j ≡ some u → FitsRoll w j u) → FitsRoll w id v
      → EachFitsRoll w (set (set views id v) other no_view)
  fits_join views id other v others mine j u e =
      ⊎_elim
      (λ (x : (j ≡ other) × (no_view ≡ u)). subst (λ (y : FactView). FitsRoll w j y) x.1 (fits_nobody j))
      (λ (x : (j ≢ other) × (get_elem? (set views id v) j ≡ some u)).
      ⊎_elim
      (λ (y : (j ≡ id) × (v ≡ u)). subst (λ (z : ℕ × FactView). FitsRoll w z.0 z.1) (λ i. (sym y.0 i, y.1 i)) mine)
      (λ (y : (j ≢ id) × (get_elem? views j ≡ some u)). others j u y.0 x.0 y.1)
      (at_set views id j v u x.1))
      (at_set (set views id v) other j no_view u e)
