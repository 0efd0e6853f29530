-- The next block's place is written into the root, and the block is set.
use Rattle.std.proofs.Common.{◌≡◌, ◌≢◌, ℕ, suc, ◌+◌, ◌<◌, List, [], ◌∷◌, ◌++◌, length, set, true, refl, sym, ap, ◌∙◌, subst, arith, length-append, length-set, get_or-set_same, get_or-set_other}
use Rattle.std.specs.Prelude.{Some, None}
use mathlib.Core.Option.{some}
use mathlib.Core.Logic.{dite}
use native.Mathlib.Decide.{ℕ_discrete, dec_le}
use lib.ListN.{get_elem?}
use denote.RawPtr.{Ptr, null_ptr, InBlock}
use Rattle.atomic_blocks.specs.Cells.{Cell, Row, State, step, cell, row_at, no_row, row, cell_in, word_of, link_of, home_of, with_word, with_link, keeps, lays, Allows, AllowsLink}
use Rattle.atomic_blocks.proofs.After.{row_before, row_last}
use Rattle.dt_trail.specs.declared.door.Door.{Door}
use Rattle.dt_trail.specs.declared.rule.Extent.{Extent}
use Rattle.dt_trail.specs.declared.rule.TrailView.{TrailView}
use Rattle.dt_trail.specs.Items.{TrailItem, own, StartsWith}
use Rattle.dt_trail.specs.Blocks.{flat, Laid, BlockLiesAt}
use Rattle.dt_trail.specs.Rule.{NoSlot, RowWorld, FitsRow, Kept, Turn, extent_of, wider, planned_at, HadAll, IsPlanned, IsLaid}
use Rattle.dt_trail.proofs.Flats.{flat_push, before_push, words_more}
use Rattle.dt_trail.proofs.Fitting.{off, fits_set, root_is, in_root}
use Rattle.dt_trail.specs.Limits.{block_bound, cells_bound, widenings}

abbrev cell_none : Cell NoSlot
cell_none = cell 0 null_ptr None

module _ {K : Type 0} (lawful : K → List TrailItem → Type 0) (root : Ptr) (acct : K) where
  abbrev H : State NoSlot (TrailView K) → Type 0
  H = Kept lawful root acct

  -- the place of the next block is written into the root
  pub plans : (id : ℕ) (m : Turn K) (i : ℕ) (q : Ptr) → m.view.owns ≡ true → i ≡ m.view.extent.blocks → i < widenings + 1
      → AllowsLink H id m 0 root i (λ _. q) (λ _. IsPlanned 0 i m q)
  plans id m i q owns ei few s h at = (in_root lawful root acct s h i (omega arith), (w, keeps, tt, kept, refl))
    where
      v : TrailView K
      v = m.view

      w : TrailView K
      w = planned_at m.view q

      f : FitsRow h.world id m.view
      f = h.each id m.view at

      count_is : i ≡ length h.world.blocks
      count_is = ei ∙ (f.extent owns).0

      c : Cell NoSlot
      c = cell (word_of s.rows 0 i) q (home_of s.rows 0 i)

      base : Row NoSlot
      base = row_at h.world.base.at (set h.world.base.cells i c)

      world : RowWorld K
      world = record { account = h.world.account; base = base; blocks = h.world.blocks; items = h.world.items; place = h.world.place; keeper = h.world.keeper; made = h.world.made }

      near : i < length h.world.base.cells
      near = let l : length h.world.base.cells ≡ widenings + 2 = h.laid.long in omega arith

      same_word : (j : ℕ) → (cell_in base.cells j).word ≡ (cell_in h.world.base.cells j).word
      same_word j = dite (ℕ_discrete j i)
          (λ x. subst (λ (z : ℕ). (cell_in base.cells z).word ≡ (cell_in h.world.base.cells z).word) (sym x)
          (ap (λ (y : Cell NoSlot). y.word) (get_or-set_same h.world.base.cells i c cell_none near) ∙ ap (λ (r : Row NoSlot). (cell_in r.cells i).word) (root_is lawful root acct s h)))
          (λ n. ap (λ (y : Cell NoSlot). y.word) (get_or-set_other h.world.base.cells i j c cell_none n))

      laid : Laid root base h.world.blocks
      laid = record {
        at = h.laid.at;
        long = length-set h.world.base.cells i c ∙ h.laid.long;
        few = h.laid.few;
        some = h.laid.some;
        wide = h.laid.wide;
        sizes = (λ j lt. same_word j ∙ h.laid.sizes j lt);
        places = (λ j lt. let p = h.laid.places j lt in let other : j ≢ i = (λ x. let y = count_is in omega arith) in
            (ap (λ (y : Cell NoSlot). y.link) (get_or-set_other h.world.base.cells i j c cell_none other) ∙ p.0, p.1, p.2, p.3));
      }

      others : (j : ℕ) (u : TrailView K) → j ≢ id → get_elem? s.views j ≡ some u → FitsRow world j u
      others j u apart at' = let g = h.each j u at' in record {
        account = g.account;
        begins = g.begins;
        live = g.live;
        owns = g.owns;
        makes = g.makes;
        had = g.had;
        had_own = g.had_own;
        stands = g.stands;
        extent = g.extent;
        plan = (λ o _. absurd (apart (sym (g.owns o).0 ∙ (f.owns owns).0)));
      }

      kept : H record { rows = with_link s.rows 0 i q; views = set s.views id w }
      kept = record {
        world = world;
        keyed = h.keyed;
        is = ap (λ (rs : List (Row NoSlot)). set rs 0 (row_at (row rs 0).at (set (row rs 0).cells i c))) h.is;
        laid = laid;
        shows = h.shows;
        each = fits_set world s.views id w others record {
          account = f.account;
          begins = f.begins;
          live = f.live;
          owns = f.owns;
          makes = f.makes;
          had = f.had;
          had_own = f.had_own;
          stands = f.stands;
          extent = f.extent;
          plan = (λ _ _. ap (λ (z : ℕ). (cell_in base.cells z).link) (sym ei) ∙ ap (λ (y : Cell NoSlot). y.link) (get_or-set_same h.world.base.cells i c cell_none near));
        };
      }

  -- the block is set
  pub widens : (id : ℕ) (blocks total : ℕ) (m : Turn K) (i size : ℕ) (q : Ptr) (cs : List (Cell NoSlot)) → m.view.owns ≡ true → m.view.extent ≡ extent_of blocks total true q → m.spare ≡ Some (row_at q cs)
      → i ≡ blocks → i < widenings + 1 → length cs ≡ size → 0 < size → size < block_bound → InBlock q → ((k : ℕ) → (cell_in cs k).word ≡ 0) → total + size < cells_bound
      → Allows H id m 0 root i (λ _. size) (λ _. IsLaid (step 0 root i size 0) m size)
  widens id blocks total m i size q cs owns extent_is carried ei few long pos small placed empty room s h at = (in_root lawful root acct s h i (omega arith), λ _. (w, lays x, carried, kept, (refl, had)))
    where
      w : TrailView K
      w = wider m.view size

      x : Row NoSlot
      x = row_at q cs

      f : FitsRow h.world id m.view
      f = h.each id m.view at

      bs : List (Row NoSlot)
      bs = h.world.blocks

      count_is : i ≡ length h.world.blocks
      count_is = ei ∙ (sym (ap (λ (u : Extent). u.blocks) extent_is) ∙ (f.extent owns).0)

      c : Cell NoSlot
      c = cell size (link_of s.rows 0 i) (home_of s.rows 0 i)

      base : Row NoSlot
      base = row_at h.world.base.at (set h.world.base.cells i c)

      new : List (Row NoSlot)
      new = bs ++ x ∷ []

      world : RowWorld K
      world = record { account = h.world.account; base = base; blocks = new; items = h.world.items; place = h.world.place; keeper = h.world.keeper; made = h.world.made }

      near : i < length h.world.base.cells
      near = let l : length h.world.base.cells ≡ widenings + 2 = h.laid.long in omega arith

      count_new : length new ≡ suc i
      count_new = length-append bs (x ∷ []) ∙ (let y = count_is in omega arith)

      last : row new i ≡ x
      last = row_last bs x i (sym count_is)

      old : (j : ℕ) → j < i → row new j ≡ row bs j
      old j lt = row_before bs x j (let y = count_is in omega arith)

      gone : (j : ℕ) → i < j → length (row new j).cells ≡ length (row bs j).cells
      gone j lt = ap (λ (r : Row NoSlot). length r.cells) (lib.ListN.get_or-eq_default new no_row (let y = count_new in omega arith) ∙ sym (lib.ListN.get_or-eq_default bs no_row (let y = count_is in omega arith)))

      link_here : link_of s.rows 0 i ≡ q
      link_here = ap (λ (r : Row NoSlot). (cell_in r.cells i).link) (root_is lawful root acct s h)
          ∙ (ap (λ (z : ℕ). (cell_in h.world.base.cells z).link) (ei ∙ sym (ap (λ (u : Extent). u.blocks) extent_is))
          ∙ (f.plan owns (ap (λ (u : Extent). u.planned) extent_is) ∙ ap (λ (u : Extent). u.plan.ptr) extent_is))

      here : cell_in base.cells i ≡ c
      here = get_or-set_same h.world.base.cells i c cell_none near

      else : (j : ℕ) → j ≢ i → cell_in base.cells j ≡ cell_in h.world.base.cells j
      else j n = get_or-set_other h.world.base.cells i j c cell_none n

      long_new : length (flat new) ≡ length (flat bs) + size
      long_new = ap length (flat_push bs x) ∙ (length-append (flat bs) cs ∙ ap (λ (z : ℕ). length (flat bs) + z) long)

      total_is : total ≡ length (flat bs)
      total_is = sym (ap (λ (u : Extent). u.cells) extent_is) ∙ (f.extent owns).1

      laid : Laid root base new
      laid = record {
        at = h.laid.at;
        long = length-set h.world.base.cells i c ∙ h.laid.long;
        few = (let y = count_new in omega arith);
        some = (let y = count_new in omega arith);
        wide = (let a = long_new in let b = total_is in omega arith);
        sizes = (λ j lt. dite (ℕ_discrete j i)
            (λ t. subst (λ (z : ℕ). (cell_in base.cells z).word ≡ length (row new z).cells) (sym t) (ap (λ (y : Cell NoSlot). y.word) here ∙ (sym long ∙ ap (λ (r : Row NoSlot). length r.cells) (sym last))))
            (λ n. ap (λ (y : Cell NoSlot). y.word) (else j n) ∙ (h.laid.sizes j lt ∙ dite (dec_le (suc j) i) (λ l. ap (λ (r : Row NoSlot). length r.cells) (sym (old j l))) (λ g. sym (gone j (omega arith))))));
        places = (λ j lt. dite (ℕ_discrete j i)
            (λ t. subst (λ (z : ℕ). ((cell_in base.cells z).link ≡ (row new z).at) × InBlock (row new z).at × (0 < length (row new z).cells) × (length (row new z).cells < block_bound)) (sym t)
            (subst (λ (r : Row NoSlot). ((cell_in base.cells i).link ≡ r.at) × InBlock r.at × (0 < length r.cells) × (length r.cells < block_bound)) (sym last)
            (ap (λ (y : Cell NoSlot). y.link) here ∙ link_here, placed, omega arith, omega arith)))
            (λ n. let l : j < i = (let y = count_new in omega arith) in let p = h.laid.places j (let y = count_is in omega arith) in
            subst (λ (r : Row NoSlot). ((cell_in base.cells j).link ≡ r.at) × InBlock r.at × (0 < length r.cells) × (length r.cells < block_bound)) (sym (old j l))
            (ap (λ (y : Cell NoSlot). y.link) (else j n) ∙ p.0, p.1, p.2, p.3)));
      }

      had : m.view.live ≡ true → HadAll m.view
      had l = let whole = (f.owns owns).1 in (subst (λ z. StartsWith z m.view.had) whole f.had, ap (own m.view.note) (sym whole) ∙ f.had_own owns l)

      stands_more : (d' : Door) → BlockLiesAt bs d' → BlockLiesAt new d'
      stands_more d' st = let lt : d'.block < i = (let y = count_is in let z = st.near in omega arith) in record {
        near = (let y = count_new in omega arith);
        from = st.from ∙ sym (before_push bs x d'.block (let z = st.near in omega arith));
        len = st.len ∙ ap (λ (r : Row NoSlot). length r.cells) (sym (old d'.block lt));
        at = ap (λ (r : Row NoSlot). r.at) (old d'.block lt) ∙ st.at;
      }

      others : (j : ℕ) (u : TrailView K) → j ≢ id → get_elem? s.views j ≡ some u → FitsRow world j u
      others j u apart at' = let g = h.each j u at' in record {
        account = g.account;
        begins = g.begins;
        live = g.live;
        owns = g.owns;
        makes = g.makes;
        had = g.had;
        had_own = g.had_own;
        stands = (λ p. stands_more u.door (g.stands p));
        extent = (λ o. absurd (apart (sym (g.owns o).0 ∙ (f.owns owns).0)));
        plan = (λ o _. absurd (apart (sym (g.owns o).0 ∙ (f.owns owns).0)));
      }

      kept : H record { rows = with_word s.rows 0 i size ++ x ∷ []; views = set s.views id w }
      kept = record {
        world = world;
        keyed = h.keyed;
        is = ap (λ (rs : List (Row NoSlot)). set rs 0 (row_at (row rs 0).at (set (row rs 0).cells i c)) ++ x ∷ []) h.is;
        laid = laid;
        shows = record {
          room = (let a = h.shows.room in let b = long_new in omega arith);
          words = (λ k. ap (λ (l : List (Cell NoSlot)). (cell_in l k).word) (flat_push bs x) ∙ words_more (flat bs) cs h.world.items h.shows.room empty h.shows.words k);
          legal = h.shows.legal;
          real = h.shows.real;
        };
        each = fits_set world s.views id w others record {
          account = f.account;
          begins = f.begins;
          live = f.live;
          owns = f.owns;
          makes = f.makes;
          had = f.had;
          had_own = f.had_own;
          stands = (λ p. stands_more m.view.door (f.stands p));
          extent = (λ o. let g = f.extent owns in ((let a = g.0 in let b = count_new in let c' = count_is in omega arith), (let a = g.1 in let b = long_new in omega arith)));
          plan = (λ _ c'. absurd (off c'));
        };
      }
