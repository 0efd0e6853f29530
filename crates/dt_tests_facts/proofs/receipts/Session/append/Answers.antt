-- What is to be shown of `append`.
use Rattle.std.proofs.Common.{◌≡◌, List, ap, sym, ◌∙◌, subst}
use mathlib.Core.List.{IsPrefix}
use Rattle.dt_facts.specs.Facts.{items_fact, lists_in}
use Rattle.dt_facts.specs.Handles.{HeldFact}
use Rattle.dt_facts.specs.Lives.{items_of_life, known_more}
use Rattle.dt_facts.specs.declared.fact.Fact.{Fact}
use Rattle.dt_facts.specs.laws.Items.{items_known}
use Rattle.dt_trail.specs.Items.{TrailItem}
use Rattle.dt_tests_facts.proofs.receipts.Session.append.Goals as goal

pub invariant_of-self : goal.invariant_of-self
invariant_of-self c =
    let old = c.args.self.now in
    let list = (lists_in old.share.fact).items in
    let knows = c.append_line.new.note.knows in
    let made = c.go_on_apart.ensures in
    let said : c.go_on_apart.new.share.fact ≡ items_fact (known_more 0 knows list) = ap (λ (h : HeldFact). h.fact) made.share in
    let begins : IsPrefix (items_of_life 0 list) knows =
    subst (λ (l : List TrailItem). IsPrefix l knows) (sym old.knows) c.append_line.ensures.grown in
    record {
      one_row = c.append_line.ensures.row.0 ∙ old.one_row ∙ sym c.append_line.ensures.row.1;
      numbered = c.append_line.ensures.row.2 ∙ old.numbered;
      agree = made.book ∙ sym made.share;
      says = said ∙ ap (λ (f : Fact). items_fact (lists_in f).items) (sym said);
      knows = ap (λ (f : Fact). items_of_life 0 (lists_in f).items) said ∙ items_known 0 list knows begins;
    }
