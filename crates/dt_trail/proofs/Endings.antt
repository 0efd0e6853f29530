-- The rows at the end.
use Rattle.std.proofs.Common.{◌≡◌, ◌≢◌, ℕ, zero, suc, ◌+◌, ◌<◌, ◌≤◌, List, [], ◌∷◌, length, set, refl, sym, ap, ◌∙◌, subst, arith, get_or-set_other}
use mathlib.Core.Logic.{dite}
use native.Mathlib.Decide.{ℕ_discrete, dec_le}
use denote.RawPtr.{Ptr, InBlock}
use Rattle.atomic_blocks.specs.Cells.{Cell, Row, State, row, no_row, cell_in, AllHome, CellsBack, Final}
use Rattle.atomic_blocks.proofs.Homes.{cells_back, rows_back}
use Rattle.dt_trail.specs.Items.{TrailItem}
use Rattle.dt_trail.specs.Rule.{NoSlot, Kept}
use Rattle.dt_trail.specs.Insides.{EndingBlocks}
use Rattle.dt_trail.proofs.Fitting.{block_is, root_is}
use Rattle.dt_trail.specs.Limits.{widenings}

no_cells : (cs : List (Cell NoSlot)) → length cs ≡ 0 → cs ≡ []
no_cells [] e = refl
no_cells (c ∷ cs) e = absurd (omega arith)

emptied : (mem : List (Row NoSlot)) (k : ℕ) → (row (set mem k no_row) k).cells ≡ []
emptied [] k = refl
emptied (x ∷ xs) zero = refl
emptied (x ∷ xs) (suc k) = emptied xs k

pub ending : {K : Type 0} (lawful : K → List TrailItem → Type 0) (root : Ptr) (acct : K) (mem : List (Row NoSlot)) → Final (Kept lawful root acct) mem → EndingBlocks root 0 mem
ending {K = K} lawful root acct mem final = record {
  at = (back 0).0 ∙ (ap (λ (r : Row NoSlot). r.at) base ∙ h.laid.at);
  long = top.0 ∙ (ap (λ (r : Row NoSlot). length r.cells) base ∙ h.laid.long);
  home = top.1;
  gone = (λ j pos low. absurd (omega arith));
  beyond = (λ j far. empty j (let few : length bs ≤ widenings + 1 = h.laid.few in omega arith));
  each = (λ j _ near. ap length refl ∙ (long j ∙ (sym (h.laid.sizes j (omega arith)) ∙ sym (word j))));
  homes = (λ j _ near. (cells_back (row s.rows (j + 1)).cells (row mem (j + 1)).cells (back (j + 1)).1).1);
  places = (λ j _ near pos.
      let there : j < length bs = dite (dec_le (suc j) (length bs)) (λ y. y) (λ n.
      let z : (cell_in (row mem 0).cells j).word ≡ 0 = word j ∙ (h.laid.sizes j (omega arith) ∙ ap (λ (r : Row NoSlot). length r.cells) (lib.ListN.get_or-eq_default bs no_row (omega arith))) in absurd (omega arith)) in
      let p = h.laid.places j there in
      let link : (cell_in (row mem 0).cells j).link ≡ (row bs j).at = (top.2 j).1 ∙ (ap (λ (r : Row NoSlot). (cell_in r.cells j).link) base ∙ p.0) in
      (subst InBlock (sym link) p.1, (back (j + 1)).0 ∙ (ap (λ (r : Row NoSlot). r.at) (block j) ∙ sym link)));
}
  where
    s : State NoSlot (Rattle.dt_trail.specs.declared.rule.TrailView.TrailView K)
    s = final.0

    h : Kept lawful root acct final.0
    h = final.1

    bs : List (Row NoSlot)
    bs = h.world.blocks

    base : row final.0.rows 0 ≡ h.world.base
    base = root_is lawful root acct s h

    block : (j : ℕ) → row final.0.rows (j + 1) ≡ row h.world.blocks j
    block j = ap (row final.0.rows) (let o : j + 1 ≡ suc j = omega arith in o) ∙ block_is lawful root acct s h j

    back : (k : ℕ) → ((row mem k).at ≡ (row final.0.rows k).at) × CellsBack (row final.0.rows k).cells (row mem k).cells
    back = rows_back s.rows mem final.2

    top : (length (row mem 0).cells ≡ length (row final.0.rows 0).cells) × AllHome (row mem 0).cells × ((i : ℕ) → ((cell_in (row mem 0).cells i).word ≡ (cell_in (row final.0.rows 0).cells i).word) × ((cell_in (row mem 0).cells i).link ≡ (cell_in (row final.0.rows 0).cells i).link))
    top = cells_back (row s.rows 0).cells (row mem 0).cells (back 0).1

    word : (j : ℕ) → (cell_in (row mem 0).cells j).word ≡ (cell_in h.world.base.cells j).word
    word j = (top.2 j).0 ∙ ap (λ (r : Row NoSlot). (cell_in r.cells j).word) base

    long : (j : ℕ) → length (row mem (j + 1)).cells ≡ length (row h.world.blocks j).cells
    long j = (cells_back (row s.rows (j + 1)).cells (row mem (j + 1)).cells (back (j + 1)).1).0 ∙ ap (λ (r : Row NoSlot). length r.cells) (block j)

    empty : (j : ℕ) → length h.world.blocks < j → (row mem j).cells ≡ []
    empty zero far = absurd (omega arith)
    empty (suc j) far = no_cells (row mem (suc j)).cells (ap (λ (n : ℕ). length (row mem n).cells) (let o : suc j ≡ j + 1 = omega arith in o) ∙ (long j ∙ ap (λ (r : Row NoSlot). length r.cells) (lib.ListN.get_or-eq_default bs no_row (omega arith))))

-- the k-th block is freed
pub ending_on : (root : Ptr) (k : ℕ) (mem mem' : List (Row NoSlot)) → mem' ≡ set mem (k + 1) no_row → EndingBlocks root k mem → EndingBlocks root (k + 1) mem'
ending_on root k mem mem' is old = subst (EndingBlocks root (k + 1)) (sym is) record {
  at = ap (λ (x : Row NoSlot). x.at) zero_is ∙ old.at;
  long = ap (λ (x : Row NoSlot). length x.cells) zero_is ∙ old.long;
  home = subst (λ (x : Row NoSlot). AllHome x.cells) (sym zero_is) old.home;
  gone = (λ j pos low. dite (ℕ_discrete j (k + 1)) (λ e. ap (λ (z : ℕ). (row (set mem (k + 1) no_row) z).cells) e ∙ emptied mem (k + 1)) (λ n. ap (λ (x : Row NoSlot). x.cells) (other j n) ∙ old.gone j pos (omega arith)));
  beyond = (λ j far. dite (ℕ_discrete j (k + 1)) (λ e. ap (λ (z : ℕ). (row (set mem (k + 1) no_row) z).cells) e ∙ emptied mem (k + 1)) (λ n. ap (λ (x : Row NoSlot). x.cells) (other j n) ∙ old.beyond j far));
  each = (λ j low near. subst (λ (x : Row NoSlot × Row NoSlot). length x.1.cells ≡ (cell_in x.0.cells j).word) (λ i. (sym zero_is i, sym (other (j + 1) (λ e. omega arith)) i)) (old.each j (omega arith) near));
  homes = (λ j low near. subst (λ (x : Row NoSlot). AllHome x.cells) (sym (other (j + 1) (λ e. omega arith))) (old.homes j (omega arith) near));
  places = (λ j low near pos. subst (λ (x : Row NoSlot × Row NoSlot). 0 < (cell_in x.0.cells j).word → InBlock (cell_in x.0.cells j).link × (x.1.at ≡ (cell_in x.0.cells j).link)) (λ i. (sym zero_is i, sym (other (j + 1) (λ e. omega arith)) i)) (old.places j (omega arith) near) pos);
}
  where
    other : (j : ℕ) → j ≢ k + 1 → row (set mem (k + 1) no_row) j ≡ row mem j
    other j n = get_or-set_other mem (k + 1) j no_row no_row n

    zero_is : row (set mem (k + 1) no_row) 0 ≡ row mem 0
    zero_is = other 0 (λ e. omega arith)

-- there is no k-th block
pub ending_past : (root : Ptr) (k : ℕ) (mem : List (Row NoSlot)) → k < widenings + 1 → (cell_in (row mem 0).cells k).word ≡ 0 → EndingBlocks root k mem → EndingBlocks root (k + 1) mem
ending_past root k mem few none old = record {
  at = old.at;
  long = old.long;
  home = old.home;
  gone = (λ j pos low. dite (ℕ_discrete j (k + 1)) (λ e. ap (λ (z : ℕ). (row mem z).cells) e ∙ no_cells (row mem (k + 1)).cells (old.each k (omega arith) few ∙ none)) (λ n. old.gone j pos (omega arith)));
  beyond = old.beyond;
  each = (λ j low near. old.each j (omega arith) near);
  homes = (λ j low near. old.homes j (omega arith) near);
  places = (λ j low near pos. old.places j (omega arith) near pos);
}

pub all_taken : (root : Ptr) (k : ℕ) (mem mem' : List (Row NoSlot)) → widenings + 1 ≤ k → mem' ≡ set mem 0 no_row → EndingBlocks root k mem → (j : ℕ) → (row mem' j).cells ≡ []
all_taken root k mem mem' done is old j = ap (λ (z : List (Row NoSlot)). (row z j).cells) is ∙ dite (ℕ_discrete j 0) (λ e. ap (λ (z : ℕ). (row (set mem 0 no_row) z).cells) e ∙ emptied mem 0)
    (λ e. ap (λ (x : Row NoSlot). x.cells) (get_or-set_other mem 0 j no_row no_row e) ∙ dite (dec_le j k) (λ l. old.gone j (omega arith) l) (λ l. old.beyond j (omega arith)))

pub in_base : (root : Ptr) (k : ℕ) (mem : List (Row NoSlot)) (i : ℕ) → i < widenings + 2 → EndingBlocks root k mem → ((row mem 0).at ≡ root) × (i < length (row mem 0).cells)
in_base root k mem i near e = (e.at, let l : length (row mem 0).cells ≡ widenings + 2 = e.long in omega arith)

pub block_lies : (root : Ptr) (k : ℕ) (mem : List (Row NoSlot)) → EndingBlocks root k mem → k < widenings + 1 → 0 < (cell_in (row mem 0).cells k).word
    → InBlock (cell_in (row mem 0).cells k).link × ((row mem (k + 1)).at ≡ (cell_in (row mem 0).cells k).link) × (0 < length (row mem (k + 1)).cells)
block_lies root k mem e near pos = let p = e.places k (omega arith) near pos in let l = e.each k (omega arith) near in (p.0, p.1, omega arith)
