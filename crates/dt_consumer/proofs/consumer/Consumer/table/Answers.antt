-- The table over the stores of all processors; where the consumer never traced it has no rows.
use Rattle.std.proofs.Common.{map, sym, ap, ◌∙◌, subst}
use Rattle.std.specs.List.{AllZip}
use Rattle.dt_aggstore.specs.EntryNames.{form_of_row}
use Rattle.dt_aggstore.specs.IsAt.{IsAt}
use Rattle.dt_life.specs.Life.{set_up}
use Rattle.dt_life.specs.Stores.{stores_in}
use Rattle.dt_consumer.proofs.Stands.{traced, untraced}
use Rattle.dt_consumer.proofs.StoresTold.{empty_table, stores_told}
use Rattle.dt_life.specs.laws.Options.{if_ok_each}
use Rattle.dt_consumer.proofs.consumer.Consumer.table.Goals as goal

pub returns-in-Some : goal.returns-in-Some
returns-in-Some c =
    if_ok_each c.merge_all.result
    (λ rows told. λ account registry life s.
    let own = set_up account registry life in
    told (stores_in account registry own)
    (subst (AllZip IsAt (stores_in account registry own)) (sym c.deref.ensures.value)
    (stores_told account registry own c.in-Some.tracing
    (traced account registry own c.args.self.now s.keeps c.in-Some.tracing c.in-Some.is))))
    c.merge_all.ensures.value

pub returns-in-None : goal.returns-in-None
returns-in-None c = λ account registry life s.
    let own = set_up account registry life in
    ap (map form_of_row) c.new.ensures.items ∙ empty_table account registry own c.args.aggregation
    (untraced account registry own c.args.self.now s.keeps c.in-None.is).quiet
