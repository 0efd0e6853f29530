-- Seats are made, and the owner's right goes into a note and out again.
use Rattle.std.proofs.Common.{◌≡◌, ◌≢◌, ℕ, ◌+◌, ◌<◌, List, [], length, set, Bool, true, false, cond, eqb, refl, sym, ap, ◌∙◌, subst, ⊎_elim, arith, eq-eqb, ne_eqb}
use Rattle.std.specs.Prelude.{Option}
use mathlib.Core.Option.{some}
use lib.ListN.{get_elem?}
use denote.RawPtr.{Ptr}
use Rattle.atomic_blocks.specs.Cells.{State, Splits, Joins}
use Rattle.atomic_table.proofs.Lists.{at_set}
use Rattle.dt_trail.specs.declared.door.Door.{Door}
use Rattle.dt_trail.specs.declared.rule.Extent.{Extent}
use Rattle.dt_trail.specs.declared.rule.TrailView.{TrailView}
use Rattle.dt_trail.specs.Items.{TrailItem, own, StartsWith}
use Rattle.dt_trail.specs.Blocks.{BlockLiesAt}
use Rattle.dt_trail.specs.Rule.{NoSlot, RowWorld, FitsRow, Kept, note, appender, owner, maker, nobody, claim, claim_of, is_longer, informed}
use Rattle.dt_trail.proofs.Fitting.{off, fits_set, fits_split, fits_nobody, in_root}

module _ {K : Type 0} (lawful : K → List TrailItem → Type 0) (root : Ptr) (acct : K) where
  abbrev H : State NoSlot (TrailView K) → Type 0
  H = Kept lawful root acct

  -- the maker makes a note
  pub makes : (id : ℕ) (a : Option K) (n : ℕ) (d : Door) (t : Extent) → Splits H 0 root id (maker a n d t) (maker a (n + 1) d t) (note a n [] d)
  makes id a n d t s h at =
      let f = h.each id (maker a n d t) at in
      let all = f.owns refl in
      let count : h.world.made ≡ n = (f.makes refl).1 in
      let seat : ℕ = length s.views in
      let place : ℕ → ℕ = λ k. cond (eqb k n) seat (h.world.place k) in
      let world : RowWorld K = record { account = h.world.account; base = h.world.base; blocks = h.world.blocks; items = h.world.items; place = place; keeper = h.world.keeper; made = n + 1 } in (
        in_root lawful root acct s h 0 (omega arith),
        record {
          world = world;
          keyed = h.keyed;
          is = h.is;
          laid = h.laid;
          shows = h.shows;
          each = fits_split world s.views id (maker a (n + 1) d t) (note a n [] d)
              (λ j u apart e. let g = h.each j u e in record {
                account = g.account;
                begins = g.begins;
                live = (λ c. let a = g.live c in let below : u.note < n = omega (arith, a.1, count) in let other : u.note ≢ n = omega arith in (ap (λ b. cond b seat (h.world.place u.note)) (ne_eqb u.note n other) ∙ a.0, omega arith, a.2));
                owns = g.owns;
                makes = (λ c. absurd (apart (sym (g.owns (g.makes c).0).0 ∙ all.0)));
                had = g.had;
                had_own = g.had_own;
                stands = g.stands;
                extent = g.extent;
                plan = g.plan;
              })
              record { account = f.account; begins = f.begins; live = (λ c. absurd (off c)); owns = f.owns; makes = (λ _. (refl, refl)); had = f.had; had_own = (λ _ l. absurd (off l)); stands = f.stands; extent = f.extent; plan = f.plan }
              record {
                account = f.account;
                begins = (h.world.items, refl);
                live = (λ _. (ap (λ b. cond b seat (h.world.place n)) (eq-eqb n n refl), omega arith, ap (own n) all.1));
                owns = (λ c. absurd (off c));
                makes = (λ c. absurd (off c));
                had = (h.world.items, refl);
                had_own = (λ c _. absurd (off c));
                stands = f.stands;
                extent = (λ c. absurd (off c));
                plan = (λ c _. absurd (off c));
              };
        },
      )

  -- the maker ends, and the owner begins
  pub opens : (id : ℕ) (a : Option K) (n : ℕ) (d : Door) (t : Extent) → Splits H 0 root id (maker a n d t) nobody (owner a [] d t)
  opens id a n d t s h at =
      let f = h.each id (maker a n d t) at in
      let all = f.owns refl in
      let seat : ℕ = length s.views in
      let world : RowWorld K = record { account = h.world.account; base = h.world.base; blocks = h.world.blocks; items = h.world.items; place = h.world.place; keeper = seat; made = h.world.made } in (
        in_root lawful root acct s h 0 (omega arith),
        record {
          world = world;
          keyed = h.keyed;
          is = h.is;
          laid = h.laid;
          shows = h.shows;
          each = fits_split world s.views id nobody (owner a [] d t)
              (λ j u apart e. let g = h.each j u e in record {
                account = g.account;
                begins = g.begins;
                live = g.live;
                owns = (λ c. absurd (apart (sym (g.owns c).0 ∙ all.0)));
                makes = g.makes;
                had = g.had;
                had_own = g.had_own;
                stands = g.stands;
                extent = g.extent;
                plan = g.plan;
              })
              (fits_nobody world id)
              record { account = f.account; begins = f.begins; live = (λ c. absurd (off c)); owns = (λ _. (refl, all.1)); makes = (λ c. absurd (off c)); had = f.had; had_own = (λ _ l. absurd (off l)); stands = f.stands; extent = f.extent; plan = f.plan };
        },
      )

  -- the owner's right goes into a note
  pub lends : (id : ℕ) (a : Option K) (n : ℕ) (ks : List TrailItem) (d : Door) (other : ℕ) (xs : List TrailItem) (d' : Door) (t : Extent) → Joins H 0 root id (note a n ks d) other (owner a xs d' t) (appender a n ks xs d' t) nobody
  lends id a n ks d other xs d' t s h = (in_root lawful root acct s h 0 (omega arith), kept)
    where
      v : TrailView K
      v = note a n ks d

      o : TrailView K
      o = owner a xs d' t

      w : TrailView K
      w = appender a n ks xs d' t

      world : RowWorld K
      world = record { account = h.world.account; base = h.world.base; blocks = h.world.blocks; items = h.world.items; place = h.world.place; keeper = id; made = h.world.made }

      kept : get_elem? s.views id ≡ some (note a n ks d) → ¬ (other ≡ id) → get_elem? (set s.views id (appender a n ks xs d' t)) other ≡ some (owner a xs d' t) → H record { rows = s.rows; views = set (set s.views id (appender a n ks xs d' t)) other nobody }
      kept at apart there =
          let f = h.each id v at in
          let theirs : get_elem? s.views other ≡ some o = ⊎_elim (λ (x : (other ≡ id) × (w ≡ o)). absurd (apart x.0)) (λ (x : (other ≢ id) × (get_elem? s.views other ≡ some o)). x.1) (at_set s.views id other w o there) in
          let g = h.each other o theirs in
          let whole = g.owns refl in
          let live = f.live refl in record {
            world = world;
            keyed = h.keyed;
            is = h.is;
            laid = h.laid;
            shows = h.shows;
            each = fits_set world (set s.views id w) other nobody
                (λ j u ne e. ⊎_elim
                (λ (x : (j ≡ id) × (w ≡ u)). subst (λ (y : ℕ × TrailView K). FitsRow world y.0 y.1) (λ i. (sym x.0 i, x.1 i)) record {
                  account = g.account;
                  begins = g.begins;
                  live = (λ _. (live.0, live.1, ap (own n) whole.1));
                  owns = (λ _. (refl, whole.1));
                  makes = (λ c. absurd (off c));
                  had = f.begins;
                  had_own = (λ _ _. live.2);
                  stands = g.stands;
                  extent = g.extent;
                  plan = g.plan;
                })
                (λ (x : (j ≢ id) × (get_elem? s.views j ≡ some u)). let k = h.each j u x.1 in record {
                  account = k.account;
                  begins = k.begins;
                  live = k.live;
                  owns = (λ c. absurd (ne (sym (k.owns c).0 ∙ whole.0)));
                  makes = k.makes;
                  had = k.had;
                  had_own = k.had_own;
                  stands = k.stands;
                  extent = k.extent;
                  plan = k.plan;
                })
                (at_set s.views id j w u e))
                (fits_nobody world other);
          }

  -- and out again
  pub returns_right : (id : ℕ) (a : Option K) (n : ℕ) (had ks : List TrailItem) (d : Door) (t : Extent) → Splits H 0 root id (appender a n had ks d t) (note a n ks d) (owner a ks d t)
  returns_right id a n had ks d t s h at =
      let f = h.each id (appender a n had ks d t) at in
      let whole = f.owns refl in
      let seat : ℕ = length s.views in
      let world : RowWorld K = record { account = h.world.account; base = h.world.base; blocks = h.world.blocks; items = h.world.items; place = h.world.place; keeper = seat; made = h.world.made } in (
        in_root lawful root acct s h 0 (omega arith),
        record {
          world = world;
          keyed = h.keyed;
          is = h.is;
          laid = h.laid;
          shows = h.shows;
          each = fits_split world s.views id (note a n ks d) (owner a ks d t)
              (λ j u apart e. let g = h.each j u e in record {
                account = g.account;
                begins = g.begins;
                live = g.live;
                owns = (λ c. absurd (apart (sym (g.owns c).0 ∙ whole.0)));
                makes = g.makes;
                had = g.had;
                had_own = g.had_own;
                stands = g.stands;
                extent = g.extent;
                plan = g.plan;
              })
              record { account = f.account; begins = f.begins; live = f.live; owns = (λ c. absurd (off c)); makes = (λ c. absurd (off c)); had = (h.world.items, refl); had_own = (λ c _. absurd (off c)); stands = f.stands; extent = (λ c. absurd (off c)); plan = (λ c _. absurd (off c)) }
              record { account = f.account; begins = f.begins; live = (λ c. absurd (off c)); owns = (λ _. (refl, whole.1)); makes = (λ c. absurd (off c)); had = (h.world.items, refl); had_own = (λ _ l. absurd (off l)); stands = f.stands; extent = f.extent; plan = f.plan };
        },
      )

  fits_claim : (w : RowWorld K) (by n : ℕ) (v : TrailView K) → FitsRow w by v → FitsRow w n (claim_of v)
  fits_claim w by n v f = record {
    account = f.account;
    begins = f.begins;
    live = (λ c. absurd (off c));
    owns = (λ c. absurd (off c));
    makes = (λ c. absurd (off c));
    had = (w.items, refl);
    had_own = (λ c _. absurd (off c));
    stands = f.stands;
    extent = (λ c. absurd (off c));
    plan = (λ c _. absurd (off c));
  }

  -- a view that is told to a new seat
  pub tells : (id : ℕ) (v : TrailView K) → Splits H 0 root id v v (claim_of v)
  tells id v s h at =
      let f = h.each id v at in (
        in_root lawful root acct s h 0 (omega arith),
        record {
          world = h.world;
          keyed = h.keyed;
          is = h.is;
          laid = h.laid;
          shows = h.shows;
          each = fits_split h.world s.views id v (claim_of v) (λ j u apart e. h.each j u e) f (fits_claim h.world id (length s.views) v f);
        },
      )

  fits_informed : (w : RowWorld K) (by : ℕ) (v u : TrailView K) → v.owns ≡ false → FitsRow w by v → StartsWith w.items u.knows → (0 < u.door.len → BlockLiesAt w.blocks u.door) → FitsRow w by (informed v u)
  fits_informed w by v u other f begins stands = record {
    account = f.account;
    begins = f.begins;
    live = f.live;
    owns = not_mine;
    makes = (λ k. not_mine (f.makes k).0);
    had = begins;
    had_own = (λ o _. not_mine o);
    stands = by_door (is_longer v u);
    extent = not_mine;
    plan = (λ o _. not_mine o);
  }
    where
      not_mine : {A : Type 0} → v.owns ≡ true → A
      not_mine o = absurd (off (sym other ∙ o))

      by_door : (b : Bool) → 0 < (cond b u.door v.door).len → BlockLiesAt w.blocks (cond b u.door v.door)
      by_door true = stands
      by_door false = f.stands

  -- a claim is taken in
  pub told : (id : ℕ) (v : TrailView K) (other : ℕ) (a : Option K) (ks : List TrailItem) (d : Door) → v.owns ≡ false → Joins H 0 root id v other (claim a ks d) (informed v (claim a ks d)) nobody
  told id v other a ks d not_mine s h = (in_root lawful root acct s h 0 (omega arith), kept)
    where
      u : TrailView K
      u = claim a ks d

      kept : get_elem? s.views id ≡ some v → ¬ (other ≡ id) → get_elem? (set s.views id (informed v (claim a ks d))) other ≡ some (claim a ks d) → H record { rows = s.rows; views = set (set s.views id (informed v (claim a ks d))) other nobody }
      kept at apart there =
          let w : TrailView K = informed v u in
          let f = h.each id v at in
          let theirs : get_elem? s.views other ≡ some u = ⊎_elim (λ (x : (other ≡ id) × (w ≡ u)). absurd (apart x.0)) (λ (x : (other ≢ id) × (get_elem? s.views other ≡ some u)). x.1) (at_set s.views id other w u there) in
          let g = h.each other u theirs in record {
            world = h.world;
            keyed = h.keyed;
            is = h.is;
            laid = h.laid;
            shows = h.shows;
            each = fits_set h.world (set s.views id w) other nobody
                (λ j y _ e. fits_set h.world s.views id w (λ i z _ e'. h.each i z e') (fits_informed h.world id v u not_mine f g.begins g.stands) j y e)
                (fits_nobody h.world other);
          }
