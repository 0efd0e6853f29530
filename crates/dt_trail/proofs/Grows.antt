-- The first empty cell is set, and a block is set.
use Rattle.std.proofs.Common.{◌≡◌, ◌≢◌, ℕ, suc, ◌+◌, ◌<◌, List, [], ◌∷◌, ◌++◌, length, set, refl, sym, ap, ◌∙◌, subst, arith, length-append, length-set}
use Rattle.std.specs.Prelude.{Option}
use mathlib.Core.Option.{some}
use lib.ListN.{get_elem?}
use denote.RawPtr.{Ptr}
use Rattle.atomic_blocks.specs.Cells.{Cell, Row, State, step, cell, me, row_at, row, link_of, home_of, with_cell, with_word, keeps, Allows}
use Rattle.dt_trail.specs.declared.door.Door.{Door}
use Rattle.dt_trail.specs.declared.rule.Extent.{Extent}
use Rattle.dt_trail.specs.declared.rule.TrailView.{TrailView}
use Rattle.dt_trail.specs.Items.{TrailItem, whose, code, IsReal, AllReal, own, code_at, StartsWith}
use Rattle.dt_trail.specs.Blocks.{flat, before, BlockLiesAt}
use Rattle.dt_trail.specs.Rule.{NoSlot, RowWorld, FitsRow, ShowsRow, Kept, Turn, appender, IsSet}
use Rattle.dt_trail.specs.laws.Starts.{starts_self, starts_trans}
use Rattle.dt_trail.proofs.Begins.{own_pushed_else, All-push}
use Rattle.dt_trail.proofs.Flats.{flat_set, words_push}
use Rattle.dt_trail.proofs.Fitting.{off, fits_set, Alike, alike_set, stands_alike, laid_alike, in_block}

module _ {K : Type 0} (lawful : K → List TrailItem → Type 0) (root : Ptr) (acct : K) where
  abbrev H : State NoSlot (TrailView K) → Type 0
  H = Kept lawful root acct

  -- the first empty cell is set
  pub sets : (id : ℕ) (a : Option K) (n : ℕ) (had ks : List TrailItem) (d : Door) (t : Extent) (hand : Option (Ptr × ℕ × NoSlot)) (spare : Option (Row NoSlot)) (i : ℕ) (x : TrailItem)
      → 0 < d.len → d.from + i ≡ length ks → i < d.len → whose x ≡ n → IsReal x → (StartsWith ks had → own n ks ≡ own n had → lawful acct (ks ++ x ∷ []))
      → Allows H id (me (appender a n had ks d t) hand spare) (suc d.block) d.link.ptr i (λ _. code x) (λ _. IsSet x (step (suc d.block) d.link.ptr i (code x) 0) (me (appender a n had ks d t) hand spare) (code x))
  sets id a n had ks d t hand spare i x pos here near mine real ok s h at = (
    in_block lawful root acct s h d i st near,
    λ _. (w, keeps, tt, kept, (refl, (begins_had, same_own))),
  )
    where
      v : TrailView K
      v = appender a n had ks d t

      m : Turn K
      m = me (appender a n had ks d t) hand spare

      w : TrailView K
      w = appender a n (ks ++ x ∷ []) (ks ++ x ∷ []) d t

      f : FitsRow h.world id (appender a n had ks d t)
      f = h.each id (appender a n had ks d t) at

      st : BlockLiesAt h.world.blocks d
      st = f.stands pos

      whole : (h.world.keeper ≡ id) × (h.world.items ≡ ks)
      whole = f.owns refl

      -- what the note had begins the row, which has no more of its own
      begins_had : StartsWith ks had
      begins_had = subst (λ l. StartsWith l had) whole.1 f.had

      same_own : own n ks ≡ own n had
      same_own = ap (own n) (sym whole.1) ∙ f.had_own refl refl

      bs : List (Row NoSlot)
      bs = h.world.blocks

      items : List TrailItem
      items = ks ++ x ∷ []

      c : Cell NoSlot
      c = cell (code x) (link_of s.rows (suc d.block) i) (home_of s.rows (suc d.block) i)

      near_is : i < length (row h.world.blocks d.block).cells
      near_is = subst (λ (z : ℕ). i < z) st.len near

      alike : Alike h.world.blocks (with_cell h.world.blocks d.block i (cell (code x) (link_of s.rows (suc d.block) i) (home_of s.rows (suc d.block) i)))
      alike = alike_set bs d.block i c near_is

      new : List (Row NoSlot)
      new = with_cell bs d.block i c

      world : RowWorld K
      world = record { account = h.world.account; base = h.world.base; blocks = new; items = items; place = h.world.place; keeper = h.world.keeper; made = h.world.made }

      spot : before bs d.block + i ≡ length ks
      spot = ap (λ (z : ℕ). z + i) (sym st.from) ∙ here

      flat_is : flat new ≡ set (flat bs) (length ks) c
      flat_is = flat_set bs d.block i c near_is ∙ ap (λ (z : ℕ). set (flat bs) z c) spot

      room : length ks < length (flat bs)
      room = let a = Rattle.dt_trail.proofs.Flats.before_le bs d.block in let b : length (row bs d.block).cells ≡ d.len = sym st.len in let e : before bs d.block + i ≡ length ks = spot in let g = near in omega arith

      shows : ShowsRow (lawful acct) items (flat new)
      shows = subst (ShowsRow (lawful acct) items) (sym flat_is) record {
        room = (let a = room in omega (arith, length-set (flat bs) (length ks) c, length-append ks (x ∷ [])));
        words = words_push (flat bs) ks x c room refl (λ k. h.shows.words k ∙ ap (λ l. code_at l k) whole.1);
        legal = ok begins_had same_own;
        real = All-push ks x (subst AllReal whole.1 h.shows.real) real;
      }

      others : (j : ℕ) (u : TrailView K) → j ≢ id → get_elem? s.views j ≡ some u → FitsRow world j u
      others j u apart e = let g = h.each j u e in
          let g0 : StartsWith ks u.knows = subst (λ l. StartsWith l u.knows) whole.1 g.begins in
          let live = f.live refl in record {
            account = g.account;
            begins = starts_trans items ks u.knows (x ∷ [], refl) g0;
            live = (λ l. let a = g.live l in
                let other : u.note ≢ n = (λ same. apart (sym a.0 ∙ (ap h.world.place same ∙ live.0))) in
                (a.0, a.1, own_pushed_else u.note ks x (λ same. other (sym same ∙ mine)) ∙ (ap (own u.note) (sym whole.1) ∙ a.2)));
            owns = (λ o. absurd (apart (sym (g.owns o).0 ∙ whole.0)));
            makes = (λ o. absurd (apart (sym (g.owns (g.makes o).0).0 ∙ whole.0)));
            had = starts_trans items ks u.had (x ∷ [], refl) (subst (λ l. StartsWith l u.had) whole.1 g.had);
            had_own = (λ o _. absurd (apart (sym (g.owns o).0 ∙ whole.0)));
            stands = (λ p. stands_alike bs new u.door alike (g.stands p));
            extent = (λ o. absurd (apart (sym (g.owns o).0 ∙ whole.0)));
            plan = (λ o _. absurd (apart (sym (g.owns o).0 ∙ whole.0)));
          }

      mine_fits : FitsRow world id w
      mine_fits = let live = f.live refl in record {
        account = f.account;
        begins = starts_self items;
        live = (λ _. (live.0, live.1, refl));
        owns = (λ _. (whole.0, refl));
        makes = (λ o. absurd (off o));
        had = starts_self items;
        had_own = (λ _ _. refl);
        stands = (λ _. stands_alike bs new d alike st);
        extent = (λ _. ((f.extent refl).0 ∙ sym alike.count, (f.extent refl).1 ∙ sym alike.long));
        plan = f.plan;
      }

      kept : H record { rows = with_word s.rows (suc d.block) i (code x); views = set s.views id w }
      kept = record {
        world = world;
        keyed = h.keyed;
        is = row_set;
        laid = laid_alike root h.world.base bs new alike h.laid;
        shows = shows;
        each = fits_set world s.views id w others mine_fits;
      }
        where
          row_set : with_word s.rows (suc d.block) i (code x) ≡ h.world.base ∷ new
          row_set = ap (λ (rs : List (Row NoSlot)). set rs (suc d.block) (row_at (row rs (suc d.block)).at (set (row rs (suc d.block)).cells i c))) h.is
