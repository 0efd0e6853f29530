-- Each step of makers, shares and books keeps the rule.
use Rattle.std.proofs.Common.{◌≡◌, ◌≢◌, ℕ, zero, suc, ◌+◌, List, [], ◌∷◌, length, Bool, true, cond, eqb, refl, sym, ap, ◌∙◌, subst, arith, eq-eqb}
use mathlib.Core.Option.{none, some, some-ne-none, some-injective}
use native.Mathlib.Decide.{ℕ_discrete}
use lib.ListN.{get_elem?}
use Rattle.atomic_table.specs.Table.{step, keeps, Allows, Splits, Joins, opening}
use Rattle.dt_facts.specs.declared.fact.Fact.{Fact}
use Rattle.dt_facts.specs.declared.fact.GrowingLists.{GrowingLists}
use Rattle.dt_facts.specs.declared.rule.FactView.{FactView}
use Rattle.dt_facts.specs.Facts.{nothing, lists_in, HaveGrown, Follows}
use Rattle.dt_facts.specs.Rule.{NoFactSlot, Roll, roll_of, share, book, both, both_unchecked, maker_view, no_view, FitsRoll, AllAgree, HasAgreed, HasGoneOn}
use Rattle.dt_facts.proofs.Lists.{grown_trans}
use Rattle.dt_facts.proofs.Fitting.{moved_off, moved_on, there_before, fits_maker, fits_share, fits_book, fits_both, fits_joined, fits_set, fits_split, fits_join}

abbrev no_names : Roll
no_names = roll_of (λ _. nothing) (λ k. k) (λ k. k) 0 0

pub starts : (words : List ℕ) → AllAgree (opening words [] (maker_view 0))
starts words = record { roll = no_names; unmade = λ n _. refl; each = one }
  where
    one : (by : ℕ) (v : FactView) → get_elem? (maker_view 0 ∷ []) by ≡ some v → FitsRoll no_names by v
    one zero v e = subst (FitsRoll no_names 0) (some-injective _ _ e) (fits_maker no_names 0 refl)
    one (suc by) v e = absurd (some-ne-none v (sym e))

pub makes : (id m : ℕ) → Splits AllAgree id (maker_view m) (maker_view (m + 1)) (both m nothing)
makes id m s h at =
    let w = h.roll in
    let f = (h.each id (maker_view m) at).makes refl in
    let seat : ℕ = length s.views in
    let next : Roll = roll_of w.held (λ k. cond (eqb k m) seat (w.share_at k)) (λ k. cond (eqb k m) seat (w.book_at k)) w.maker_at (m + 1) in
    let blank : nothing ≡ w.held m = sym (h.unmade m (omega (arith, f.1))) in
    record {
      roll = next;
      unmade = λ n le. h.unmade n (omega (arith, f.1));
      each = fits_split next s.views id (maker_view (m + 1)) (both m nothing)
          (λ j u apart e. let g = h.each j u e in record {
            share = λ c. let a = g.share c in (moved_off w.share_at m u.name seat (λ z. omega (arith, a.2, f.1, z)) ∙ a.0, a.1, omega (arith, a.2, f.1));
            book = λ c. let a = g.book c in (moved_off w.book_at m u.name seat (λ z. omega (arith, a.2, f.1, z)) ∙ a.0, a.1, omega (arith, a.2, f.1));
            met = g.met;
            begins = λ c. let a = g.begins c in (a.0, omega (arith, a.1, f.1));
            told = g.told;
            makes = λ c. absurd (apart (sym (g.makes c).0 ∙ f.0));
          })
          (fits_maker next id f.0)
          (fits_both next seat m nothing (moved_on w.share_at m seat, blank, omega arith) (moved_on w.book_at m seat, blank, omega arith));
    }

pub joins : (id n : ℕ) (x : Fact) (other : ℕ) (y : Fact) → Joins AllAgree id (book n x) other (share n y) (both_unchecked n x y) no_view
joins id n x other y s h at apart there =
    let w = h.roll in
    let f = (h.each id (book n x) at).book refl in
    let p = (h.each other (share n y) (there_before s.views id other (both_unchecked n x y) (share n y) apart there)).share refl in
    let next : Roll = roll_of w.held (λ k. cond (eqb k n) id (w.share_at k)) w.book_at w.maker_at w.made in
    record {
      roll = next;
      unmade = h.unmade;
      each = fits_join next s.views id other (both_unchecked n x y)
          (λ j u off_id off_other e. let g = h.each j u e in record {
            share = λ c. let a = g.share c in (moved_off w.share_at n u.name id (λ z. off_other (sym a.0 ∙ ap w.share_at z ∙ p.0)) ∙ a.0, a.1, a.2);
            book = g.book;
            met = g.met;
            begins = g.begins;
            told = g.told;
            makes = g.makes;
          })
          (fits_joined next id n x y (moved_on w.share_at n id, f.1, f.2) f p.1);
    }

pub agrees : (slots id n : ℕ) (x y : Fact) (c : List (ℕ × NoFactSlot)) → Allows AllAgree slots id (both_unchecked n x y, c) 0 (λ n. n) (HasAgreed (step slots 0 0 0 none) (both_unchecked n x y, c))
agrees slots id n x y c s h _ at _ =
    let f = h.each id (both_unchecked n x y) at in (
      both n x,
      keeps,
      tt,
      record {
        roll = h.roll;
        unmade = h.unmade;
        each = fits_set h.roll s.views id (both n x) (λ j u _ e. h.each j u e) (fits_both h.roll id n x (f.share refl) (f.book refl));
      },
      (refl, refl, (f.share refl).1 ∙ sym (f.met refl).1),
    )

pub goes_on : (slots id n : ℕ) (x z : Fact) (c : List (ℕ × NoFactSlot)) → Follows x z → Allows AllAgree slots id (both n x, c) 0 (λ n. n) (HasGoneOn z (step slots 0 0 0 none) (both n x, c))
goes_on slots id n x z c follows s h _ at _ =
    let w = h.roll in
    let f = h.each id (both n x) at in
    let fs = f.share refl in
    let fb = f.book refl in
    let next : Roll = roll_of (λ k. cond (eqb k n) z (w.held k)) w.share_at w.book_at w.maker_at w.made in
    let off_share : (j : ℕ) (u : FactView) → j ≢ id → get_elem? s.views j ≡ some u → u.share ≡ true → u.name ≢ n = (λ j u apart e c q. apart (sym ((h.each j u e).share c).0 ∙ ap w.share_at q ∙ fs.0)) in
    let off_book : (j : ℕ) (u : FactView) → j ≢ id → get_elem? s.views j ≡ some u → u.book ≡ true → u.name ≢ n = (λ j u apart e c q. apart (sym ((h.each j u e).book c).0 ∙ ap w.book_at q ∙ fb.0)) in (
      both n z,
      keeps,
      tt,
      record {
        roll = next;
        unmade = λ k le. moved_off w.held n k z (λ e. omega (arith, fs.2, e)) ∙ h.unmade k le;
        each = fits_set next s.views id (both n z)
            (λ j u apart e. let g = h.each j u e in record {
              share = λ c. let a = g.share c in (a.0, a.1 ∙ sym (moved_off w.held n u.name z (off_share j u apart e c)), a.2);
              book = λ c. let a = g.book c in (a.0, a.1 ∙ sym (moved_off w.held n u.name z (off_book j u apart e c)), a.2);
              met = λ c. let a = g.met c in (a.0, a.1 ∙ sym (moved_off w.held n u.name z (off_share j u apart e a.0)));
              begins = λ c. let a = g.begins c in (begun_still w.held u.name (ℕ_discrete u.name n) u.knows fs.1 a.0, a.1);
              told = λ c. begun_still w.held u.name (ℕ_discrete u.name n) u.told fs.1 (g.told c);
              makes = g.makes;
            })
            (fits_both next id n z (fs.0, sym (moved_on w.held n z), fs.2) (fb.0, sym (moved_on w.held n z), fb.2));
      },
      (refl, refl),
    )
  where
    begun_still : (at : ℕ → Fact) (k : ℕ) → Dec (k ≡ n) → (ws : GrowingLists) → x ≡ at n → HaveGrown ws (lists_in (at k)) → HaveGrown ws (lists_in (cond (eqb k n) z (at k)))
    begun_still at k (yes e) ws is a =
        let before : lists_in (at k) ≡ lists_in x = ap (λ (q : ℕ). lists_in (at q)) e ∙ ap lists_in (sym is) in
        let now : lists_in (cond (eqb k n) z (at k)) ≡ lists_in z = ap (λ (b : Bool). lists_in (cond b z (at k))) (eq-eqb k n e) in
        subst (λ (l : GrowingLists). HaveGrown ws l) (sym now) (grown_trans ws (lists_in x) (lists_in z) (subst (λ (l : GrowingLists). HaveGrown ws l) before a) follows)
    begun_still at k (no ne) ws is a = subst (λ (q : Fact). HaveGrown ws (lists_in q)) (sym (moved_off at n k z ne)) a

pub cuts : (id n : ℕ) (x : Fact) → Splits AllAgree id (both n x) (book n x) (share n x)
cuts id n x s h at =
    let w = h.roll in
    let f = h.each id (both n x) at in
    let fs = f.share refl in
    let seat : ℕ = length s.views in
    let next : Roll = roll_of w.held (λ k. cond (eqb k n) seat (w.share_at k)) w.book_at w.maker_at w.made in
    record {
      roll = next;
      unmade = h.unmade;
      each = fits_split next s.views id (book n x) (share n x)
          (λ j u apart e. let g = h.each j u e in record {
            share = λ c. let a = g.share c in (moved_off w.share_at n u.name seat (λ z. apart (sym a.0 ∙ ap w.share_at z ∙ fs.0)) ∙ a.0, a.1, a.2);
            book = g.book;
            met = g.met;
            begins = g.begins;
            told = g.told;
            makes = g.makes;
          })
          (fits_book next id n x (f.book refl))
          (fits_share next seat n x (moved_on w.share_at n seat, fs.1, fs.2));
    }
