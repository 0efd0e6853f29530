-- One store more is shared.
use Rattle.std.proofs.Common.{◌≡◌, ◌<◌, ℤ, List, length, refl, sym, ap, subst, arith, rules}
use Rattle.std.specs.Prelude.{All, map}
use Rattle.dt_aggfn.specs.declared.limits.TheConstants.{BAG_LIMIT}
use Rattle.dt_aggstore.specs.EntryNames.{form_of_row}
use Rattle.dt_aggstore.specs.Table.{joined_bag}
use Rattle.dt_aggstore.specs.Joining.{cell_shared, AreShares}
use Rattle.dt_aggstore.specs.Shares.{ShareForm}
use Rattle.dt_aggfn.specs.Cells.{cell_words}
use Rattle.std.proofs.lemmas.List.Elements.{All-nil}
use Rattle.std.proofs.lemmas.List.Sorted.{length_permutation}
use Rattle.dt_aggstore.proofs.Sharing.{none_shared}
use Rattle.dt_aggstore.proofs.Anew.{joined_anew}
use Rattle.dt_aggstore.proofs.Rows.{rows_made}
use Rattle.dt_aggstore.proofs.Rising.{Key}
use Rattle.dt_aggstore.proofs.Tables.{choices_of, choices_are, store_shared, all_shared, all_short}
use Rattle.dt_aggstore.proofs.Tables.{table_is}
use Rattle.dt_aggstore.proofs.table.table_by.Goals as goal

pub loop-store-init : goal.loop-store-init
loop-store-init g c = record {
  words = subst (All (λ (share : ShareForm). length (cell_shared share) ≡ cell_words c.args.aggregation.function))
      (sym (ap (map g.S.KeyShare.told) c.in_ok-shares.ensures.items))
      (All-nil (λ (share : ShareForm). length (cell_shared share) ≡ cell_words c.args.aggregation.function));
  shares = λ pasts at. none_shared c.args.aggregation.function _ (map g.S.KeyShare.told c.in_ok-shares.shares.items)
      (ap (map g.S.KeyShare.told) c.in_ok-shares.ensures.items) (λ key. refl);
}

pub loop-store-preserved : goal.loop-store-preserved
loop-store-preserved g c = record {
  words = c.in_ok-share_into.ensures.words c.loop-store.invariant.words;
  shares = λ pasts at.
      store_shared c.args.aggregation pasts c.args.stores.now at c.loop-store.store-index c.store-item.result
      (map g.S.KeyShare.told c.loop-store.shares.items) (map g.S.KeyShare.told c.share_into.new.shares.items)
      c.loop-store-test.true c.store-item.is
      (λ past own bags a. c.in_ok-share_into.ensures.shares past own bags a (search rules)) (c.loop-store.invariant.shares pasts at);
}

pub rows_of-requires-clause-words : goal.rows_of-requires-clause-words
rows_of-requires-clause-words g c =
    subst (λ xs. All (λ (share : ShareForm). length (cell_shared share) ≡ cell_words c.args.aggregation.function) (map g.S.KeyShare.told xs))
    (sym c.deref.ensures.value)
    (c.sort.ensures.words (cell_words c.args.aggregation.function) c.loop-store.invariant.words)

pub returns-clause-table : goal.returns-clause-table
returns-clause-table g c = λ pasts at.
    let aggregation = c.args.aggregation in
    let stores = c.args.stores.now in
    let choices = choices_of pasts stores at in
    let bags : Key → List ℤ = λ key. joined_bag aggregation key pasts choices in
    let few : (key : Key) → length (bags key) < BAG_LIMIT =
    λ key. omega (arith, c.requires, all_short aggregation pasts stores at key) in
    let shares = all_shared aggregation pasts stores at c.loop-store.store-index (map g.S.KeyShare.told c.loop-store.shares.items)
    c.loop-store-test.false (c.loop-store.invariant.shares pasts at) in
    let anew = c.sort.ensures.bags aggregation.function bags shares in
    let few_anew : (key : Key) → length (anew.others key) < BAG_LIMIT =
    λ key. omega (arith, few key, length_permutation (bags key) (anew.others key) (anew.same key)) in
    let rows = c.in_ok-rows_of.ensures anew.others
    (subst (λ xs. AreShares aggregation.function anew.others (map g.S.KeyShare.told xs)) (sym c.deref.ensures.value) anew.are)
    few_anew in
    let j = joined_anew c.any_order.ensures.cell aggregation.function bags anew.others rows.done anew.same rows.joined in
    let made = c.in_ok-rows_of.field-0.items in
    table_is aggregation pasts choices rows.done (map form_of_row made) (choices_are pasts stores at) j
    (rows_made aggregation.function bags rows.done made j few rows.made)
