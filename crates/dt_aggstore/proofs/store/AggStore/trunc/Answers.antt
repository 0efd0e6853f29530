-- The entries of an aggregation go.
use Rattle.std.proofs.Common.{length, refl, sym, ap, ◌∙◌, arith}
use Rattle.dt_aggstore.specs.Keys.{cost_of}
use Rattle.dt_aggstore.specs.EntryNames.{entries_named, words_of, cells_without}
use Rattle.dt_aggstore.proofs.Costs.{words_cost, cost_without, length-cells_without}
use Rattle.dt_aggstore.proofs.Steps.{after_truncated}
use Rattle.dt_aggstore.proofs.store.AggStore.trunc.Goals as goal

pub let_go-requires : goal.let_go-requires
let_go-requires c =
    let self = c.args.self.now in
    omega (
      arith,
      words_cost (entries_named self.entries.items),
      self.spent_is,
      self.within,
      self.small,
    )

pub costs-spent-requires : goal.costs-spent-requires
costs-spent-requires c =
    let self = c.args.self.now in
    omega (
      arith,
      ap (λ xs. cost_of (entries_named xs)) c.names-2.ensures,
      ap cost_of c.let_go.ensures.names,
      cost_without c.args.aggregation (entries_named self.entries.items),
      self.spent_is,
      self.within,
      self.small,
    )

pub invariant_of-self : goal.invariant_of-self
invariant_of-self c =
    let self = c.args.self.now in
    record {
      entry_room = omega (arith, self.entry_room, c.let_go.ensures.room);
      cell_room = omega (arith, self.cell_room, c.close_up.ensures.capacity);
      spent_is = c.costs-spent.ensures ∙ ap (λ xs. cost_of (entries_named xs)) c.names-2.ensures;
      cells_are = ap length c.close_up.ensures.items
          ∙ ap (λ xs. length (cells_without c.args.aggregation (entries_named xs) self.cells.items)) c.names.ensures
          ∙ length-cells_without c.args.aggregation (entries_named self.entries.items) self.cells.items self.cells_are
          ∙ ap words_of (sym c.let_go.ensures.names);
      places_are = c.let_go.ensures.places;
      within = omega (
        arith,
        c.costs-spent.ensures,
        ap (λ xs. cost_of (entries_named xs)) c.names-2.ensures,
        ap cost_of c.let_go.ensures.names,
        cost_without c.args.aggregation (entries_named self.entries.items),
        self.spent_is,
        self.within,
      );
      small = self.small;
      few = self.few;
      dropped_among = omega (arith, self.dropped_among);
    }

pub returns-clause-stands : goal.returns-clause-stands
returns-clause-stands c = λ past at.
    let self = c.args.self.now in
    after_truncated c.cell_length.ensures.words past self at c.args.aggregation _ refl refl refl c.let_go.ensures.names
    (c.close_up.ensures.items
    ∙ ap (λ xs. cells_without c.args.aggregation (entries_named xs) self.cells.items) c.names.ensures)
