-- Where writes begin what was seen, and are begun by all that is known, they are both.
use Rattle.std.proofs.Common.{List, sym, subst, ◌∙◌}
use mathlib.Core.List.{IsPrefix}
use Rattle.dt_chain.specs.Writes.{Write}
use Rattle.dt_hub.proofs.Alike.{all_same, in_order}
use Rattle.dt_hub.proofs.naming.is_all_known.Goals as goal

pub returns-clause-seen : goal.returns-clause-seen
returns-clause-seen g c = λ so.
    let known = subst (λ (seen : List Write). IsPrefix seen c.told.result) (sym c.seen.ensures) c.told.ensures.seen in
    let within = in_order c.begins-2.result _ _ c.begins-2.ensures.order c.if-not-begins.false in
    let begins = in_order c.begins-4.result _ _ c.begins-4.ensures.order so in
    (all_same c.args.front.now c.seen.result c.told.result known within begins).0 ∙ c.seen.ensures

pub returns-clause-told : goal.returns-clause-told
returns-clause-told g c = λ so.
    let known = subst (λ (seen : List Write). IsPrefix seen c.told.result) (sym c.seen.ensures) c.told.ensures.seen in
    let within = in_order c.begins-2.result _ _ c.begins-2.ensures.order c.if-not-begins.false in
    let begins = in_order c.begins-4.result _ _ c.begins-4.ensures.order so in
    sym c.told.ensures.told ∙ (all_same c.args.front.now c.seen.result c.told.result known within begins).1 ∙ c.seen.ensures
