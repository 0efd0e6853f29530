-- What each step needs of the rule.
use Rattle.std.proofs.Common.{◌≡◌, ◌≢◌, ℕ, suc, ◌+◌, ◌<◌, ◌≤◌, List, [], ◌∷◌, ◌++◌, length, set, true, false, true≢false, refl, sym, ap, ◌∙◌, subst, ⊎_elim, arith, length-set}
use mathlib.Core.Option.{some}
use lib.ListN.{get_elem?}
use denote.RawPtr.{Ptr, InBlock}
use Rattle.atomic_blocks.specs.Cells.{Cell, Row, State, me, row, cell_in, word_of, link_of, with_cell, with_word, with_link, Lies, keeps, Goes}
use Rattle.atomic_blocks.proofs.After.{cell_again, count_stays, place_stays}
use Rattle.atomic_table.proofs.Lists.{at_set}
use Rattle.dt_trail.specs.declared.door.Door.{Door}
use Rattle.dt_trail.specs.declared.rule.TrailView.{TrailView}
use Rattle.dt_trail.specs.Items.{TrailItem, code_at, StartsWith}
use Rattle.dt_trail.specs.Blocks.{flat, before, Laid, BlockLiesAt}
use Rattle.dt_trail.specs.Rule.{NoSlot, RowWorld, FitsRow, FitsEach, Kept, Turn, nobody, IsBegun}
use Rattle.dt_trail.proofs.Begins.{at_snoc_at}
use Rattle.dt_trail.proofs.Flats.{flat_at, flat_long, before_set}
use Rattle.dt_trail.specs.Limits.{block_bound, cells_bound, widenings}

pub off : false ≡ true → ⊥
off e = true≢false (sym e)

-- one view is changed, and the others still fit
pub fits_set : {K : Type 0} (w : RowWorld K) (views : List (TrailView K)) (id : ℕ) (v : TrailView K) → ((j : ℕ) (u : TrailView K) → j ≢ id → get_elem? views j ≡ some u → FitsRow w j u) → FitsRow w id v → FitsEach w (set views id v)
fits_set {K = K} w views id v others mine j u e =
    ⊎_elim
    (λ (x : (j ≡ id) × (v ≡ u)). subst (λ (y : ℕ × TrailView K). FitsRow w y.0 y.1) (λ i. (sym x.0 i, x.1 i)) mine)
    (λ (x : (j ≢ id) × (get_elem? views j ≡ some u)). others j u x.0 x.1)
    (at_set views id j v u e)

-- one view is changed and one is new
pub fits_split : {K : Type 0} (w : RowWorld K) (views : List (TrailView K)) (id : ℕ) (v n : TrailView K)
    → ((j : ℕ) (u : TrailView K) → j ≢ id → get_elem? views j ≡ some u → FitsRow w j u) → FitsRow w id v → FitsRow w (length views) n
    → FitsEach w (set views id v ++ n ∷ [])
fits_split {K = K} w views id v n others mine new j u e =
    ⊎_elim
    (λ (x : get_elem? (set views id v) j ≡ some u). fits_set w views id v others mine j u x)
    (λ (x : (j ≡ length (set views id v)) × (n ≡ u)). subst (λ (y : ℕ × TrailView K). FitsRow w y.0 y.1) (λ i. (sym (x.0 ∙ length-set views id v) i, x.1 i)) new)
    (at_snoc_at (set views id v) n u j e)

pub fits_nobody : {K : Type 0} (w : RowWorld K) (by : ℕ) → FitsRow w by nobody
fits_nobody w by = record {
  account = λ x e. absurd (cc);
  begins = (w.items, refl);
  live = λ c. absurd (off c);
  owns = λ c. absurd (off c);
  makes = λ c. absurd (off c);
  had = (w.items, refl);
  had_own = λ c _. absurd (off c);
  stands = λ h. absurd (omega arith);
  extent = λ c. absurd (off c);
  plan = λ c _. absurd (off c);
}

-- the same blocks, but for what is in a cell
pub record Alike (old new : List (Row NoSlot)) : Type 0 where
  pub count : length new ≡ length old
  pub each : (j : ℕ) → ((row new j).at ≡ (row old j).at) × (length (row new j).cells ≡ length (row old j).cells)
  pub before_is : (j : ℕ) → before new j ≡ before old j
  pub long : length (flat new) ≡ length (flat old)

pub alike_set : (bs : List (Row NoSlot)) (b i : ℕ) (c : Cell NoSlot) → i < length (row bs b).cells → Alike bs (with_cell bs b i c)
alike_set bs b i c near = record {
  count = count_stays bs b i c near;
  each = place_stays bs b i c near;
  before_is = before_set bs b i c;
  long = flat_long bs b i c near;
}

pub stands_alike : (old new : List (Row NoSlot)) (d : Door) → Alike old new → BlockLiesAt old d → BlockLiesAt new d
stands_alike old new d a s = record {
  near = subst (λ (n : ℕ). d.block < n) (sym a.count) s.near;
  from = s.from ∙ sym (a.before_is d.block);
  len = s.len ∙ sym (a.each d.block).1;
  at = (a.each d.block).0 ∙ s.at;
}

pub laid_alike : (root : Ptr) (base : Row NoSlot) (old new : List (Row NoSlot)) → Alike old new → Laid root base old → Laid root base new
laid_alike root base old new a l = record {
  at = l.at;
  long = l.long;
  few = subst (λ (n : ℕ). n ≤ widenings + 1) (sym a.count) l.few;
  some = subst (λ (n : ℕ). 0 < n) (sym a.count) l.some;
  wide = subst (λ (n : ℕ). n < cells_bound) (sym a.long) l.wide;
  sizes = λ j h. l.sizes j h ∙ sym (a.each j).1;
  places = λ j h. let p = l.places j (subst (λ (n : ℕ). j < n) a.count h) in let e = a.each j in
      (p.0 ∙ sym e.0, subst InBlock (sym e.0) p.1, subst (λ (n : ℕ). 0 < n) (sym e.1) p.2, subst (λ (n : ℕ). n < block_bound) (sym e.1) p.3);
}

module _ {K : Type 0} (lawful : K → List TrailItem → Type 0) (root : Ptr) (acct : K) where
  abbrev H : State NoSlot (TrailView K) → Type 0
  H = Kept lawful root acct

  pub block_is : (s : State NoSlot (TrailView K)) (h : H s) (b : ℕ) → row s.rows (suc b) ≡ row h.world.blocks b
  block_is s h b = ap (λ (rs : List (Row NoSlot)). row rs (suc b)) h.is

  pub root_is : (s : State NoSlot (TrailView K)) (h : H s) → row s.rows 0 ≡ h.world.base
  root_is s h = ap (λ (rs : List (Row NoSlot)). row rs 0) h.is

  pub in_root : (s : State NoSlot (TrailView K)) (h : H s) (i : ℕ) → i < widenings + 2 → Lies s.rows 0 root i
  in_root s h i near = subst (λ (r : Row NoSlot). (r.at ≡ root) × (i < length r.cells)) (sym (root_is s h)) (h.laid.at, subst (λ (n : ℕ). i < n) (sym h.laid.long) near)

  pub in_block : (s : State NoSlot (TrailView K)) (h : H s) (d : Door) (i : ℕ) → BlockLiesAt h.world.blocks d → i < d.len → Lies s.rows (suc d.block) d.link.ptr i
  in_block s h d i st near = subst (λ (r : Row NoSlot). (r.at ≡ d.link.ptr) × (i < length r.cells)) (sym (block_is s h d.block)) (st.at, subst (λ (n : ℕ). i < n) st.len near)

  -- the word of a cell of a block
  pub word_is : (s : State NoSlot (TrailView K)) (h : H s) (d : Door) (i : ℕ) → BlockLiesAt h.world.blocks d → i < d.len → word_of s.rows (suc d.block) i ≡ code_at h.world.items (d.from + i)
  word_is s h d i st near =
      let bs = h.world.blocks in
      let near' : i < length (row bs d.block).cells = subst (λ (n : ℕ). i < n) st.len near in
      ap (λ (r : Row NoSlot). (cell_in r.cells i).word) (block_is s h d.block)
      ∙ (sym (ap (λ (x : Cell NoSlot). x.word) (flat_at bs d.block i near'))
      ∙ (h.shows.words (before bs d.block + i) ∙ ap (λ (n : ℕ). code_at h.world.items (n + i)) (sym st.from)))

  -- a step that changes no cell
  pub quiet : (s : State NoSlot (TrailView K)) (h : H s) (k i id : ℕ) (m : Turn K) (v : TrailView K) (then : Turn K → Type 0) → FitsEach h.world (set s.views id v) → then (me v m.hand m.spare)
      → Goes H s (with_word s.rows k i (word_of s.rows k i)) id m then
  quiet s h k i id m v then fits told = subst (λ (rs : List (Row NoSlot)). Goes H s rs id m then) (sym (cell_again s.rows k i))
      (v, keeps, tt, record { world = h.world; keyed = h.keyed; is = h.is; laid = h.laid; shows = h.shows; each = fits }, told)

  pub quiet_link : (s : State NoSlot (TrailView K)) (h : H s) (k i id : ℕ) (m : Turn K) (v : TrailView K) (then : Turn K → Type 0) → FitsEach h.world (set s.views id v) → then (me v m.hand m.spare)
      → Goes H s (with_link s.rows k i (link_of s.rows k i)) id m then
  quiet_link s h k i id m v then fits told = subst (λ (rs : List (Row NoSlot)). Goes H s rs id m then) (sym (cell_again s.rows k i))
      (v, keeps, tt, record { world = h.world; keyed = h.keyed; is = h.is; laid = h.laid; shows = h.shows; each = fits }, told)

  -- a beginning of the row begins a lawful one
  pub legal_begun : (s : State NoSlot (TrailView K)) (h : H s) (id : ℕ) (v : TrailView K) (ks : List TrailItem) → FitsRow h.world id v → StartsWith h.world.items ks → IsBegun lawful v.account ks
  legal_begun s h id v ks f a x e = (a.0, subst (λ z. lawful z (ks ++ a.0)) (sym (f.account x e ∙ h.keyed)) (subst (lawful acct) a.1 h.shows.legal))

  pub fits_again : (s : State NoSlot (TrailView K)) (h : H s) (id : ℕ) (v : TrailView K) → FitsRow h.world id v → FitsEach h.world (set s.views id v)
  fits_again s h id v f = fits_set h.world s.views id v (λ j u _ e. h.each j u e) f
