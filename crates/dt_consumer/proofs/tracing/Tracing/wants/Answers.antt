-- A list without ECBs: none names the probe.
use Rattle.std.proofs.Common.{get_or, map, sym, ap, ◌∙◌, arith}
use Rattle.std.proofs.lemmas.Bool.{eqb-true}
use Rattle.dt_ecb.specs.Forms.{form_of_ecb}
use Rattle.dt_life.specs.laws.Lists.{empty-from_length}
use Rattle.dt_consumer.proofs.Tracings.{list_at}
use Rattle.dt_consumer.proofs.tracing.Tracing.wants.Goals as goal

pub returns-in_default-clause-unnamed : goal.returns-in_default-clause-unnamed
returns-in_default-clause-unnamed c = λ account registry s t no going there known.
    let list = c.in-Some.list.now in
    let its = list_at account registry s c.args.self.now.lists.items c.args.probe list t.lists (omega (arith, known))
    (c.in-Some.ensures.lookup.3.1 list
    ∙ ap (λ xs. get_or xs c.args.probe list) c.deref.ensures.value) in
    let none = empty-from_length list.ecbs.items
    (omega (arith, eqb-true list.ecbs.len 0 (sym c.is_empty.ensures ∙ c.if-not-is_empty.false))) in
    sym its.forms ∙ ap (map (form_of_ecb s.clauses)) none
