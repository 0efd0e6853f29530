-- What is to be shown of `replies_in`.
use Rattle.std.proofs.Common.{◌≡◌, ◌+◌, List, ◌∷◌, count_by, cond, refl, sym, ◌∙◌, arith, rules}
use Rattle.std.proofs.lemmas.List.Recursion.{is_count_by}
use Rattle.dt_alone.specs.Lent.{form_of_lent, forms_of_lent, has_reply}
use Rattle.dt_alone.specs.Verdicts.{replies_in}
use Rattle.dt_alone.specs.declared.lent_item.LentItem.{LentItem}
use Rattle.dt_alone.specs.declared.lent_item.LentItem.TheVariants.{Line, Long, Fired}
use Rattle.dt_alone.proofs.checking.replies_in.Goals as goal

counted : (item : LentItem) (items : List LentItem) → replies_in (forms_of_lent (item ∷ items))
    ≡ cond (has_reply (form_of_lent item)) (1 + replies_in (forms_of_lent items)) (replies_in (forms_of_lent items))
counted (Line line reply) items = omega arith
counted (Long reply) items = omega arith
counted (Fired cpu place) items = refl

pub returns-clause-count : goal.returns-clause-count
returns-clause-count c =
    let count : c.count.result ≡ count_by (λ item. has_reply (form_of_lent item)) c.args.items.now = search
    rules in
    count ∙ sym (is_count_by (λ items. replies_in (forms_of_lent items))
    (λ item. has_reply (form_of_lent item)) refl
    counted c.args.items.now)
