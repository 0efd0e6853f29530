-- A table of the pasts is the one that the definition makes of them.
use Rattle.std.proofs.Common.{subst}
use Rattle.std.specs.Prelude.{map, IfSome}
use Rattle.dt_aggstore.specs.EntryNames.{form_of_row}
use Rattle.dt_aggstore.specs.Table.{IsTable}
use Rattle.dt_aggstore.proofs.SomeTables.{table_value}
use Rattle.dt_aggstore.proofs.store.AggStore.merge_all.Goals as goal

pub returns-in-Some-clause-value : goal.returns-in-Some-clause-value
returns-in-Some-clause-value c = λ pasts at.
    table_value pasts c.args.aggregation (map form_of_row c.in-Some.rows.items)
    (subst (λ made. IfSome made (λ rows. IsTable pasts c.args.aggregation (map form_of_row rows.items))) c.in-Some.is
    (c.in_ok-rows.ensures.table pasts at))

pub returns-in-Some-2-clause-value : goal.returns-in-Some-2-clause-value
returns-in-Some-2-clause-value c = λ pasts at.
    table_value pasts c.args.aggregation (map form_of_row c.in-Some-2.rows.items)
    (subst (λ made. IfSome made (λ rows. IsTable pasts c.args.aggregation (map form_of_row rows.items))) c.in-Some-2.is
    (c.in_ok-rows-2.ensures.table pasts at))

pub returns-clause-value : goal.returns-clause-value
returns-clause-value c = λ pasts at.
    table_value pasts c.args.aggregation (map form_of_row c.unwrap.result.items)
    (subst (λ made. IfSome made (λ rows. IsTable pasts c.args.aggregation (map form_of_row rows.items))) c.unwrap.ensures
    (c.in_ok-table_by.ensures.table pasts at))
