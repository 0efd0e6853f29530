-- A new entry has room where its cost fits.
use Rattle.std.proofs.Common.{◌≡◌, ◌+◌, List, ◌++◌, ◌∷◌, [], sym, ap, ◌∙◌, arith}
use Rattle.std.proofs.lemmas.List.{length-map, map-append}
use Rattle.dt_aggstore.specs.EntryNames.{entry_named, entries_named, words_of}
use Rattle.dt_aggfn.specs.Cells.{cell_words}
use Rattle.dt_aggstore.specs.Keys.{entry_cost, cost_of}
use Rattle.dt_aggstore.specs.declared.entry_name.EntryName.{EntryName}
use Rattle.dt_aggstore.proofs.Costs.{words_cost, entries_cost, cost-push, words-push}
use Rattle.dt_aggstore.specs.Indexed.{places_from}
use Rattle.dt_aggstore.proofs.Indexing.{places-push}
use Rattle.dt_aggstore.proofs.store.AggStore.insert.Goals as goal

pub push_first-requires : goal.push_first-requires
push_first-requires c =
    let self = c.args.self.now in
    omega (
      arith,
      self.cell_room,
      self.cells_are,
      self.within,
      self.spent_is,
      self.cells.ok,
      c.if-self-cost.false,
      c.cost-cost.ensures.cost,
      words_cost (entries_named self.entries.items),
    )

pub push-requires-clause-room : goal.push-requires-clause-room
push-requires-clause-room c =
    let self = c.args.self.now in
    omega (
      arith,
      self.entry_room,
      self.within,
      self.spent_is,
      c.if-self-cost.false,
      c.cost-cost.ensures.least,
      length-map self.entries.items entry_named,
      entries_cost c.cell_length.ensures.some (entries_named self.entries.items),
    )

module _ (items : List EntryName) (name : EntryName) (new : List EntryName) (is : new ≡ items ++ name ∷ []) where
  one_more : entries_named new ≡ entries_named items ++ entry_named name ∷ []
  one_more = ap entries_named is ∙ map-append entry_named items (name ∷ [])

  cost_more : cost_of (entries_named new) ≡ cost_of (entries_named items) + entry_cost name.aggregation name.key.parts.items
  cost_more = ap cost_of one_more ∙ cost-push (entries_named items) (entry_named name)

  words_more : words_of (entries_named new) ≡ words_of (entries_named items) + cell_words name.aggregation.function
  words_more = ap words_of one_more ∙ words-push (entries_named items) (entry_named name)

pub invariant_of-self-2-clause-spent_is : goal.invariant_of-self-2-clause-spent_is
invariant_of-self-2-clause-spent_is c =
    let self = c.args.self.now in
    omega (
      arith,
      self.spent_is,
      c.cost-cost.ensures.cost,
      cost_more self.entries.items c.args.name c.push.new.self.items c.push.ensures.items,
    )

pub invariant_of-self-2-clause-cells_are : goal.invariant_of-self-2-clause-cells_are
invariant_of-self-2-clause-cells_are c =
    let self = c.args.self.now in
    omega (
      arith,
      self.cells_are,
      self.cells.ok,
      c.push_first.new.cells.ok,
      c.push_first.ensures.len,
      words_more self.entries.items c.args.name c.push.new.self.items c.push.ensures.items,
    )

-- the new cell lies after the others
pub invariant_of-self-2-clause-places_are : goal.invariant_of-self-2-clause-places_are
invariant_of-self-2-clause-places_are c =
    let self = c.args.self.now in
    let names = entries_named self.entries.items in
    c.push.ensures.places
    ∙ ap (λ places. places ++ c.len-place.result ∷ []) self.places_are
    ∙ ap (λ place. places_from 0 names ++ place ∷ [])
    (omega (arith, c.len-place.ensures, self.cells.ok, self.cells_are))
    ∙ sym (places-push 0 names (entry_named c.args.name))
    ∙ ap (places_from 0) (sym (one_more self.entries.items c.args.name c.push.new.self.items c.push.ensures.items))
