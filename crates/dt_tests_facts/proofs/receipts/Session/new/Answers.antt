-- What is to be shown of `new`.
use Rattle.std.proofs.Common.{◌≡◌, [], refl, ap, sym, ◌∙◌, subst}
use mathlib.Core.List.{IsPrefix}
use Rattle.dt_facts.specs.Facts.{items_fact, lists_in, Follows}
use Rattle.dt_facts.specs.Handles.{HeldFact}
use Rattle.dt_facts.specs.Lives.{items_of_life, known_more}
use Rattle.dt_facts.specs.declared.fact.Fact.{Fact}
use Rattle.dt_facts.specs.laws.Items.{items_known}
use Rattle.dt_tests_facts.proofs.receipts.Session.new.Goals as goal

pub go_on_apart-requires-clause-follows : goal.go_on_apart-requires-clause-follows
go_on_apart-requires-clause-follows c =
    let knows = c.args.note.knows in
    subst (λ (x : Fact). Follows x (items_fact (known_more 0 knows (lists_in x).items))) (sym c.requires.empty)
    ((([], refl)), (known_more 0 knows [], refl), ([], refl))

pub invariant_of-result : goal.invariant_of-result
invariant_of-result c =
    let knows = c.args.note.knows in
    let list = (lists_in c.args.share.fact).items in
    let made = c.go_on_apart.ensures in
    let said : c.go_on_apart.new.share.fact ≡ items_fact (known_more 0 knows list) = ap (λ (h : HeldFact). h.fact) made.share in
    let begins : IsPrefix (items_of_life 0 list) knows =
    subst (λ (x : Fact). IsPrefix (items_of_life 0 (lists_in x).items) knows) (sym c.requires.empty) (knows, refl) in
    record {
      one_row = c.requires.row.0;
      numbered = c.requires.row.1;
      agree = made.book ∙ sym made.share;
      says = said ∙ ap (λ (f : Fact). items_fact (lists_in f).items) (sym said);
      knows = ap (λ (f : Fact). items_of_life 0 (lists_in f).items) said ∙ items_known 0 list knows begins;
    }
