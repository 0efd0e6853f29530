-- The steps at views that are known.
use Rattle.std.proofs.Common.{◌≡◌, ℕ, sym, subst}
use mathlib.Core.Option.{none}
use Rattle.atomic_table.specs.Table.{step, Allows, Splits, Joins}
use Rattle.dt_facts.specs.declared.fact.Fact.{Fact}
use Rattle.dt_facts.specs.declared.fact.GrowingLists.{GrowingLists}
use Rattle.dt_facts.specs.declared.rule.FactView.{FactView}
use Rattle.dt_facts.specs.Facts.{Follows}
use Rattle.dt_facts.specs.Rule.{Mine, share, book, both, both_unchecked, lists_begun, lists_told, book_begun, maker_view, no_view, next_maker, made_view, with_share, without_share, share_alone, beginning_of, same_beginning, with_told, with_beginning, AllAgree, HasAgreed, HasGoneOn, HasBegun, HasLearntLists}
use Rattle.dt_facts.proofs.Keeping.{makes, joins, agrees, goes_on, cuts}
use Rattle.dt_facts.proofs.Growing.{begins, repeats, tells, learns, opens, compares}

pub makes_as : (id : ℕ) (v : FactView) (m : ℕ) → v ≡ maker_view m → Splits AllAgree id v (next_maker v) (made_view v)
makes_as id v m e = subst (λ (u : FactView). Splits AllAgree id u (next_maker u) (made_view u)) (sym e) (makes id m)

pub joins_as : (id : ℕ) (v : FactView) (n : ℕ) (x : Fact) (other : ℕ) (w : FactView) (y : Fact) → v ≡ book n x → w ≡ share n y → Joins AllAgree id v other w (with_share v w) no_view
joins_as id v n x other w y e e' = subst (λ (p : FactView × FactView). Joins AllAgree id p.0 other p.1 (with_share p.0 p.1) no_view) (λ i. (sym e i, sym e' i)) (joins id n x other y)

pub agrees_as : (slots id : ℕ) (me : Mine) (n : ℕ) (x y : Fact) → me.0 ≡ both_unchecked n x y → Allows AllAgree slots id me 0 (λ n. n) (HasAgreed (step slots 0 0 0 none) me)
agrees_as slots id me n x y e = subst (λ (v : FactView). Allows AllAgree slots id (v, me.1) 0 (λ n. n) (HasAgreed (step slots 0 0 0 none) (v, me.1))) (sym e) (agrees slots id n x y me.1)

pub goes_on_as : (slots id : ℕ) (me : Mine) (n : ℕ) (x z : Fact) → me.0 ≡ both n x → Follows x z → Allows AllAgree slots id me 0 (λ n. n) (HasGoneOn z (step slots 0 0 0 none) me)
goes_on_as slots id me n x z e follows = subst (λ (v : FactView). Allows AllAgree slots id (v, me.1) 0 (λ n. n) (HasGoneOn z (step slots 0 0 0 none) (v, me.1))) (sym e) (goes_on slots id n x z me.1 follows)

pub cuts_as : (id : ℕ) (v : FactView) (n : ℕ) (x : Fact) → v ≡ both n x → Splits AllAgree id v (without_share v) (share_alone v)
cuts_as id v n x e = subst (λ (u : FactView). Splits AllAgree id u (without_share u) (share_alone u)) (sym e) (cuts id n x)

pub begins_as : (id : ℕ) (v : FactView) (n : ℕ) (x : Fact) → v ≡ book n x → Splits AllAgree id v v (beginning_of v)
begins_as id v n x e = subst (λ (u : FactView). Splits AllAgree id u u (beginning_of u)) (sym e) (begins id n x)

pub repeats_as : (id : ℕ) (v : FactView) (n : ℕ) (xs : GrowingLists) → v ≡ lists_begun n xs → Splits AllAgree id v v (same_beginning v)
repeats_as id v n xs e = subst (λ (u : FactView). Splits AllAgree id u u (same_beginning u)) (sym e) (repeats id n xs)

pub tells_as : (id : ℕ) (v : FactView) (n : ℕ) (xs : GrowingLists) (other : ℕ) (w : FactView) (ys : GrowingLists) → v ≡ lists_begun n xs → w ≡ lists_begun n ys → Joins AllAgree id v other w (with_told v w) no_view
tells_as id v n xs other w ys e e' = subst (λ (p : FactView × FactView). Joins AllAgree id p.0 other p.1 (with_told p.0 p.1) no_view) (λ i. (sym e i, sym e' i)) (tells id n xs other ys)

pub learns_as : (slots id : ℕ) (me : Mine) (n : ℕ) (xs ys : GrowingLists) → me.0 ≡ lists_told n xs ys → Allows AllAgree slots id me 0 (λ n. n) (HasLearntLists (step slots 0 0 0 none) me)
learns_as slots id me n xs ys e = subst (λ (v : FactView). Allows AllAgree slots id (v, me.1) 0 (λ n. n) (HasLearntLists (step slots 0 0 0 none) (v, me.1))) (sym e) (learns slots id n xs ys me.1)

pub opens_as : (id : ℕ) (v : FactView) (n : ℕ) (x : Fact) (other : ℕ) (w : FactView) (ys : GrowingLists) → v ≡ book n x → w ≡ lists_begun n ys → Joins AllAgree id v other w (with_beginning v w) no_view
opens_as id v n x other w ys e e' = subst (λ (p : FactView × FactView). Joins AllAgree id p.0 other p.1 (with_beginning p.0 p.1) no_view) (λ i. (sym e i, sym e' i)) (opens id n x other ys)

pub compares_as : (slots id : ℕ) (me : Mine) (n : ℕ) (x : Fact) (ys : GrowingLists) → me.0 ≡ book_begun n x ys → Allows AllAgree slots id me 0 (λ n. n) (HasBegun (step slots 0 0 0 none) me)
compares_as slots id me n x ys e = subst (λ (v : FactView). Allows AllAgree slots id (v, me.1) 0 (λ n. n) (HasBegun (step slots 0 0 0 none) (v, me.1))) (sym e) (compares slots id n x ys me.1)
