-- Each step on a word keeps the rule.
use Rattle.std.proofs.Common.{◌≡◌, ◌≢◌, ℕ, suc, ◌+◌, ◌<◌, ◌≤◌, List, [], ◌∷◌, ◌++◌, length, true, false, refl, sym, ap, ◌∙◌, subst, arith, append_assoc, length-append, eq-eqb, ne_eqb}
use Rattle.std.specs.Prelude.{Option, MatchBool}
use native.Mathlib.Decide.{dec_le}
use denote.RawPtr.{Ptr, InBlock}
use Rattle.atomic_blocks.specs.Cells.{Row, State, Step, step, no_row, row, cell_in, word_of, link_of, with_word, Goes, Allows, AllowsLink}
use Rattle.dt_trail.specs.declared.door.Door.{Door}
use Rattle.dt_trail.specs.declared.rule.Extent.{Extent}
use Rattle.dt_trail.specs.declared.rule.TrailView.{TrailView}
use Rattle.dt_trail.specs.Items.{TrailItem, code, IsReal, AllReal, own, code_at, StartsWith, longer, IsWordAt}
use Rattle.dt_trail.specs.Blocks.{flat, before, BlockLiesAt}
use Rattle.dt_trail.specs.Rule.{NoSlot, FitsRow, Kept, Turn, appender, through, door_at, pushed, reviewed, FindsItem, HasCompared, TurnReads, HasLearnt, learnt, IsLast, IsTurned, IsSeen, IsBack, IsFoundAgain, IsPeeked}
use Rattle.dt_trail.proofs.Begins.{starts_length, starts_longer, own_rest, own_longer, not_own, All-at, code_some, code_behind, stands_begun}
use Rattle.dt_trail.proofs.Flats.{before_first, before_next, before_all, before_le}
use Rattle.dt_trail.proofs.Fitting.{off, root_is, in_root, in_block, word_is, quiet, quiet_link, fits_again, legal_begun}
use Rattle.dt_trail.specs.Limits.{block_bound, cells_bound, widenings}

module _ {K : Type 0} (lawful : K → List TrailItem → Type 0) (root : Ptr) (acct : K) where
  abbrev H : State NoSlot (TrailView K) → Type 0
  H = Kept lawful root acct

  -- a read of the first cell that the seat doesn't know
  pub reads : (id : ℕ) (m : Turn K) (i : ℕ) → 0 < m.view.door.len → m.view.door.from + i ≡ length m.view.knows → i < m.view.door.len
      → Allows H id m (suc m.view.door.block) m.view.door.link.ptr i (λ n. n) (TurnReads lawful (step (suc m.view.door.block) m.view.door.link.ptr i 0 0) m)
  reads id m i pos here near s h at = (in_block lawful root acct s h d i st near, λ _. by_rest f.begins.0 f.begins.1)
    where
      v : TrailView K
      v = m.view

      d : Door
      d = m.view.door

      f : FitsRow h.world id m.view
      f = h.each id m.view at

      st : BlockLiesAt h.world.blocks m.view.door
      st = f.stands pos

      k : ℕ
      k = suc m.view.door.block

      st0 : Step
      st0 = step (suc m.view.door.block) m.view.door.link.ptr i 0 0

      items : List TrailItem
      items = h.world.items

      found : ℕ
      found = word_of s.rows (suc m.view.door.block) i

      found_is : found ≡ code_at items (length m.view.knows)
      found_is = word_is lawful root acct s h d i st near ∙ ap (code_at items) here

      by_rest : (rest : List TrailItem) → items ≡ v.knows ++ rest → Goes H s (with_word s.rows k i found) id m (TurnReads lawful st0 m found)
      by_rest [] e =
          let none : found ≡ 0 = found_is ∙ (ap (λ l. code_at l (length v.knows)) e ∙ code_behind v.knows []) in
          quiet lawful root acct s h k i id m v (TurnReads lawful st0 m found) (fits_again lawful root acct s h id v f)
          (legal_begun lawful root acct s h id v v.knows f ([], e), subst (λ b. MatchBool b (m ≡ m) (FindsItem m found m)) (sym (eq-eqb found 0 none)) refl)
      by_rest (x ∷ xs) e =
          let is : found ≡ code x = found_is ∙ (ap (λ l. code_at l (length v.knows)) e ∙ code_behind v.knows (x ∷ xs)) in
          let real : IsReal x = All-at v.knows x xs (subst AllReal e h.shows.real) in
          let some : found ≢ 0 = (λ z. let o : 0 < code x = code_some x in omega arith) in
          let w : TrailView K = pushed v x in
          let next : StartsWith items w.knows = (xs, e ∙ sym (append_assoc v.knows (x ∷ []) xs)) in
          let begin : StartsWith w.knows v.knows = (x ∷ [], refl) in
          quiet lawful root acct s h k i id m w (TurnReads lawful st0 m found)
          (fits_again lawful root acct s h id w record {
            account = f.account;
            begins = next;
            live = (λ l. let g = f.live l in (g.0, g.1, own_longer v.note items v.knows w.knows next begin g.2));
            owns = (λ o. absurd (omega (arith, ap length (sym (f.owns o).1 ∙ e), length-append v.knows (x ∷ xs))));
            makes = f.makes;
            had = f.had;
            had_own = f.had_own;
            stands = f.stands;
            extent = f.extent;
            plan = f.plan;
          }) (
            legal_begun lawful root acct s h id v w.knows f next,
            subst (λ b. MatchBool b (reviewed m w ≡ m) (FindsItem m found (reviewed m w))) (sym (ne_eqb found 0 some))
                record { item = x; shown = is; real = real; other = (λ l. not_own v.note x xs (own_rest v.note items v.knows (x ∷ xs, e) (f.live l).2)); next = refl },
          )

  -- a read of the root: what the next block is
  pub turns : (id : ℕ) (m : Turn K) (i : ℕ) → 0 < m.view.door.len → i ≡ suc m.view.door.block → i < widenings + 2
      → Allows H id m 0 root i (λ n. n) (IsTurned lawful (step 0 root i 0 0) m)
  turns id m i pos ei near s h at = (in_root lawful root acct s h i near, λ _. by_case (dec_le (suc i) (length h.world.blocks)))
    where
      v : TrailView K
      v = m.view

      d : Door
      d = m.view.door

      f : FitsRow h.world id m.view
      f = h.each id m.view at

      st : BlockLiesAt h.world.blocks m.view.door
      st = f.stands pos

      bs : List (Row NoSlot)
      bs = h.world.blocks

      found : ℕ
      found = word_of s.rows 0 i

      st0 : Step
      st0 = step 0 root i 0 0

      found_is : found ≡ length (row bs i).cells
      found_is = ap (λ (r : Row NoSlot). (cell_in r.cells i).word) (root_is lawful root acct s h) ∙ h.laid.sizes i near

      from_is : before bs i ≡ d.from + d.len
      from_is = ap (before bs) ei ∙ (before_next bs d.block ∙ (λ t. sym st.from t + sym st.len t))

      Next : TrailView K → Type 0
      Next u = (p : Ptr) × InBlock p × (found < block_bound) × (d.from + d.len + found < cells_bound) × (i < widenings + 1) × (reviewed m u ≡ reviewed m (through v (door_at i (d.from + d.len) found p)))

      by_case : Dec (suc i ≤ length bs) → Goes H s (with_word s.rows 0 i found) id m (IsTurned lawful st0 m found)
      by_case (yes there) =
          let pl = h.laid.places i (omega arith) in
          let p : Ptr = (row bs i).at in
          let some : found ≢ 0 = (λ z. let x : 0 < length (row bs i).cells = pl.2 in let y : length (row bs i).cells ≡ 0 = sym found_is ∙ z in omega arith) in
          let few : length bs ≤ widenings + 1 = h.laid.few in
          let w : TrailView K = through v (door_at i (d.from + d.len) found p) in
          quiet lawful root acct s h 0 i id m w (IsTurned lawful st0 m found)
          (fits_again lawful root acct s h id w record {
            account = f.account;
            begins = f.begins;
            live = f.live;
            owns = f.owns;
            makes = f.makes;
            had = f.had;
            had_own = f.had_own;
            stands = (λ _. record { near = omega arith; from = sym from_is; len = found_is; at = refl });
            extent = f.extent;
            plan = f.plan;
          }) (
            legal_begun lawful root acct s h id v v.knows f f.begins,
            subst (λ b. MatchBool b (IsLast m (reviewed m w)) (Next w)) (sym (ne_eqb found 0 some))
                (p, pl.1, subst (λ (n : ℕ). n < block_bound) (sym found_is) pl.3, (let a = before_le bs i in let b = h.laid.wide in let e = from_is in let g = found_is in omega arith), omega arith, refl),
          )
      by_case (no none) =
          let gone : row bs i ≡ no_row = lib.ListN.get_or-eq_default bs no_row (omega arith) in
          let empty : found ≡ 0 = found_is ∙ ap (λ (r : Row NoSlot). length r.cells) gone in
          quiet lawful root acct s h 0 i id m v (IsTurned lawful st0 m found) (fits_again lawful root acct s h id v f) (
            legal_begun lawful root acct s h id v v.knows f f.begins,
            subst (λ b. MatchBool b (IsLast m m) (Next v)) (sym (eq-eqb found 0 empty))
                (refl, (λ o. (f.extent o).1 ∙ whole), known),
          )
        where
          whole : length (flat h.world.blocks) ≡ m.view.door.from + m.view.door.len
          whole = sym (before_all bs i (omega arith)) ∙ from_is

          known : length m.view.knows ≤ m.view.door.from + m.view.door.len
          known = let a = h.shows.room in let b = starts_length h.world.items m.view.knows f.begins in let e = whole in omega arith

  -- a read of the root: the first block
  pub goes_back : (id : ℕ) (m : Turn K) → Allows H id m 0 root 0 (λ n. n) (IsBack (step 0 root 0 0 0) m)
  goes_back id m s h at =
      let f = h.each id m.view at in
      let bs = h.world.blocks in
      let found : ℕ = word_of s.rows 0 0 in
      let pl = h.laid.places 0 h.laid.some in
      let found_is : word_of s.rows 0 0 ≡ length (row h.world.blocks 0).cells = ap (λ (r : Row NoSlot). (cell_in r.cells 0).word) (root_is lawful root acct s h) ∙ h.laid.sizes 0 (omega arith) in
      let w : TrailView K = through m.view (door_at 0 0 found (row bs 0).at) in (
        in_root lawful root acct s h 0 (omega arith),
        λ _. quiet lawful root acct s h 0 0 id m w (IsBack (step 0 root 0 0 0) m (word_of s.rows 0 0))
            (fits_again lawful root acct s h id w record {
              account = f.account;
              begins = f.begins;
              live = f.live;
              owns = f.owns;
              makes = f.makes;
              had = f.had;
              had_own = f.had_own;
              stands = (λ _. record { near = h.laid.some; from = sym (before_first bs); len = found_is; at = refl });
              extent = f.extent;
              plan = f.plan;
            })
            ((row bs 0).at, pl.1, subst (λ (n : ℕ). 0 < n) (sym found_is) pl.2, subst (λ (n : ℕ). n < block_bound) (sym found_is) pl.3, refl),
      )

  -- a read of a cell whose item the seat knows
  pub reads_again : (id : ℕ) (m : Turn K) (i : ℕ) → 0 < m.view.door.len → m.view.door.from + i < length m.view.knows → i < m.view.door.len
      → Allows H id m (suc m.view.door.block) m.view.door.link.ptr i (λ n. n) (IsFoundAgain (step (suc m.view.door.block) m.view.door.link.ptr i 0 0) m)
  reads_again id m i pos known near s h at =
      let f = h.each id m.view at in
      let st = f.stands pos in
      let k : ℕ = m.view.door.from + i in
      let word = word_of s.rows (suc m.view.door.block) i in
      let found_is : word_of s.rows (suc m.view.door.block) i ≡ code_at (m.view.knows ++ f.begins.0) (m.view.door.from + i) = word_is lawful root acct s h m.view.door i st near ∙ ap (λ l. code_at l k) f.begins.1 in (
        in_block lawful root acct s h m.view.door i st near,
        λ _. quiet lawful root acct s h (suc m.view.door.block) i id m m.view (IsFoundAgain (step (suc m.view.door.block) m.view.door.link.ptr i 0 0) m word) (fits_again lawful root acct s h id m.view f)
            (refl, subst (IsWordAt m.view.knows k) (sym found_is) (stands_begun m.view.knows f.begins.0 k known (subst AllReal f.begins.1 h.shows.real))),
      )

  -- a read of a cell of the door's block, whatever it has
  pub peeks : (id : ℕ) (m : Turn K) (i : ℕ) → 0 < m.view.door.len → i < m.view.door.len
      → Allows H id m (suc m.view.door.block) m.view.door.link.ptr i (λ n. n) (IsPeeked (step (suc m.view.door.block) m.view.door.link.ptr i 0 0) m)
  peeks id m i pos near s h at =
      let f = h.each id m.view at in
      let word = word_of s.rows (suc m.view.door.block) i in (
        in_block lawful root acct s h m.view.door i (f.stands pos) near,
        λ _. quiet lawful root acct s h (suc m.view.door.block) i id m m.view (IsPeeked (step (suc m.view.door.block) m.view.door.link.ptr i 0 0) m word) (fits_again lawful root acct s h id m.view f) refl,
      )

  -- a read of the root: where the block lies
  pub sees : (id : ℕ) (m : Turn K) (i : ℕ) → 0 < m.view.door.len → i ≡ m.view.door.block → i < widenings + 2
      → AllowsLink H id m 0 root i (λ q. q) (IsSeen 0 i m)
  sees id m i pos ei near s h at =
      let f = h.each id m.view at in
      let st = f.stands pos in
      let there : i < length h.world.blocks = subst (λ (n : ℕ). n < length h.world.blocks) (sym ei) st.near in
      let pl = h.laid.places i there in (
        in_root lawful root acct s h i near,
        quiet_link lawful root acct s h 0 i id m m.view (IsSeen 0 i m (link_of s.rows 0 i)) (fits_again lawful root acct s h id m.view f)
            (refl, ap (λ (r : Row NoSlot). (cell_in r.cells i).link) (root_is lawful root acct s h) ∙ (pl.0 ∙ (ap (λ (n : ℕ). (row h.world.blocks n).at) ei ∙ st.at))),
      )

  -- a note that has the owner's right compares
  pub compares : (id : ℕ) (a : Option K) (n : ℕ) (had ks : List TrailItem) (d : Door) (t : Extent) (m : Turn K) → m.view ≡ appender a n had ks d t → Allows H id m 0 root 0 (λ x. x) (HasCompared (step 0 root 0 0 0) m)
  compares id a n had ks d t m e s h at =
      let f = h.each id m.view at in
      let own_is = f.had_own (ap (λ (v : TrailView K). v.owns) e) (ap (λ (v : TrailView K). v.live) e) in
      let whole = (f.owns (ap (λ (v : TrailView K). v.owns) e)).1 in (
        in_root lawful root acct s h 0 (omega arith),
        λ _. quiet lawful root acct s h 0 0 id m m.view (HasCompared (step 0 root 0 0 0) m (word_of s.rows 0 0)) (fits_again lawful root acct s h id m.view f)
            (refl, (subst (λ l. StartsWith l m.view.had) whole f.had, ap (own m.view.note) (sym whole) ∙ own_is)),
      )

  -- a note learns what it was told
  pub learns : (id : ℕ) (m : Turn K) → m.view.owns ≡ false → Allows H id m 0 root 0 (λ x. x) (HasLearnt lawful (step 0 root 0 0 0) m)
  learns id m other s h at = (in_root lawful root acct s h 0 (omega arith), λ _. told)
    where
      v : TrailView K
      v = m.view

      w : TrailView K
      w = learnt m.view

      items : List TrailItem
      items = h.world.items

      f : FitsRow h.world id m.view
      f = h.each id m.view at

      all : StartsWith h.world.items (longer m.view.knows m.view.had) × StartsWith (longer m.view.knows m.view.had) m.view.knows × StartsWith (longer m.view.knows m.view.had) m.view.had
      all = starts_longer items v.knows v.had f.begins f.had

      not_mine : {A : Type 0} → m.view.owns ≡ true → A
      not_mine o = absurd (off (sym other ∙ o))

      told : Goes H s (with_word s.rows 0 0 (word_of s.rows 0 0)) id m (HasLearnt lawful (step 0 root 0 0 0) m (word_of s.rows 0 0))
      told = quiet lawful root acct s h 0 0 id m w (HasLearnt lawful (step 0 root 0 0 0) m (word_of s.rows 0 0))
          (fits_again lawful root acct s h id w record {
            account = f.account;
            begins = all.0;
            live = (λ l. let g = f.live l in (g.0, g.1, own_longer v.note items v.knows w.knows all.0 all.1 g.2));
            owns = not_mine;
            makes = (λ k. not_mine (f.makes k).0);
            had = (items, refl);
            had_own = (λ o _. not_mine o);
            stands = f.stands;
            extent = not_mine;
            plan = (λ o _. not_mine o);
          }) (
            legal_begun lawful root acct s h id v w.knows f all.0,
            refl,
            all.1,
            all.2,
            (λ l. let g = f.live l in sym (own_longer v.note items v.knows w.knows all.0 all.1 g.2) ∙ g.2),
          )
