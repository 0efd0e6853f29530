-- Each step of beginnings keeps the rule.
use Rattle.std.proofs.Common.{ℕ, List, length, refl, sym, subst}
use mathlib.Core.Option.{none}
use Rattle.atomic_table.specs.Table.{step, keeps, Allows, Splits, Joins}
use Rattle.dt_facts.specs.declared.fact.Fact.{Fact}
use Rattle.dt_facts.specs.declared.fact.GrowingLists.{GrowingLists}
use Rattle.dt_facts.specs.Facts.{lists_in, longer_lists, HaveGrown}
use Rattle.dt_facts.specs.Rule.{NoFactSlot, book, lists_begun, lists_told, book_begun, no_view, AllAgree, HasBegun, HasLearntLists}
use Rattle.dt_facts.proofs.Lists.{grown_self, grown_longer}
use Rattle.dt_facts.proofs.Fitting.{there_before, fits_book, fits_beginning, fits_informed, fits_opened, fits_set, fits_split, fits_join}

pub begins : (id n : ℕ) (x : Fact) → Splits AllAgree id (book n x) (book n x) (lists_begun n (lists_in x))
begins id n x s h at =
    let f = h.each id (book n x) at in
    let fb = f.book refl in
    record {
      roll = h.roll;
      unmade = h.unmade;
      each = fits_split h.roll s.views id (book n x) (lists_begun n (lists_in x)) (λ j u _ e. h.each j u e) f
          (fits_beginning h.roll (length s.views) n (lists_in x) (subst (λ (q : Fact). HaveGrown (lists_in x) (lists_in q)) fb.1 (grown_self (lists_in x)), fb.2));
    }

pub repeats : (id n : ℕ) (xs : GrowingLists) → Splits AllAgree id (lists_begun n xs) (lists_begun n xs) (lists_begun n xs)
repeats id n xs s h at =
    let f = h.each id (lists_begun n xs) at in
    record {
      roll = h.roll;
      unmade = h.unmade;
      each = fits_split h.roll s.views id (lists_begun n xs) (lists_begun n xs) (λ j u _ e. h.each j u e) f
          (fits_beginning h.roll (length s.views) n xs (f.begins refl));
    }

pub tells : (id n : ℕ) (xs : GrowingLists) (other : ℕ) (ys : GrowingLists) → Joins AllAgree id (lists_begun n xs) other (lists_begun n ys) (lists_told n xs ys) no_view
tells id n xs other ys s h at apart there =
    let f = (h.each id (lists_begun n xs) at).begins refl in
    let p = (h.each other (lists_begun n ys) (there_before s.views id other (lists_told n xs ys) (lists_begun n ys) apart there)).begins refl in
    record {
      roll = h.roll;
      unmade = h.unmade;
      each = fits_join h.roll s.views id other (lists_told n xs ys) (λ j u _ _ e. h.each j u e) (fits_informed h.roll id n xs ys f p.0);
    }

pub learns : (slots id n : ℕ) (xs ys : GrowingLists) (c : List (ℕ × NoFactSlot)) → Allows AllAgree slots id (lists_told n xs ys, c) 0 (λ n. n) (HasLearntLists (step slots 0 0 0 none) (lists_told n xs ys, c))
learns slots id n xs ys c s h _ at _ =
    let f = h.each id (lists_told n xs ys) at in
    let begun = f.begins refl in
    let both = grown_longer xs ys (lists_in (h.roll.held n)) begun.0 (f.told refl) in (
      lists_begun n (longer_lists xs ys),
      keeps,
      tt,
      record {
        roll = h.roll;
        unmade = h.unmade;
        each = fits_set h.roll s.views id (lists_begun n (longer_lists xs ys)) (λ j u _ e. h.each j u e) (fits_beginning h.roll id n (longer_lists xs ys) (both.0, begun.1));
      },
      (refl, refl, both.1, both.2),
    )

pub opens : (id n : ℕ) (x : Fact) (other : ℕ) (ys : GrowingLists) → Joins AllAgree id (book n x) other (lists_begun n ys) (book_begun n x ys) no_view
opens id n x other ys s h at apart there =
    let f = h.each id (book n x) at in
    let p = (h.each other (lists_begun n ys) (there_before s.views id other (book_begun n x ys) (lists_begun n ys) apart there)).begins refl in
    record {
      roll = h.roll;
      unmade = h.unmade;
      each = fits_join h.roll s.views id other (book_begun n x ys) (λ j u _ _ e. h.each j u e) (fits_opened h.roll id n x ys (f.book refl) p);
    }

pub compares : (slots id n : ℕ) (x : Fact) (ys : GrowingLists) (c : List (ℕ × NoFactSlot)) → Allows AllAgree slots id (book_begun n x ys, c) 0 (λ n. n) (HasBegun (step slots 0 0 0 none) (book_begun n x ys, c))
compares slots id n x ys c s h _ at _ =
    let f = h.each id (book_begun n x ys) at in (
      book n x,
      keeps,
      tt,
      record {
        roll = h.roll;
        unmade = h.unmade;
        each = fits_set h.roll s.views id (book n x) (λ j u _ e. h.each j u e) (fits_book h.roll id n x (f.book refl));
      },
      (refl, refl, subst (λ (q : Fact). HaveGrown ys (lists_in q)) (sym (f.book refl).1) (f.begins refl).0),
    )
