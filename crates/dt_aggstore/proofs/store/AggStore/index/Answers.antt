-- The index has the held entries, whose cells lie one after another.
use Rattle.std.proofs.Common.{◌≡◌, ℕ, ◌+◌, zip, sym, ap, ◌∙◌, subst}
use Rattle.std.specs.Prelude.{slice_range, pos}
use Rattle.std.specs.List.{AllByRecursion}
use Rattle.std.specs.Map.{keys_of, values_of}
use Rattle.std.proofs.lemmas.Map.Made.{keys_of-zip}
use Rattle.dt_aggfn.specs.Cells.{cell_words, cell_of}
use Rattle.dt_aggstore.specs.Held.{bag}
use Rattle.dt_aggstore.specs.EntryNames.{entry_named, entries_named, LiesAt}
use Rattle.dt_aggstore.specs.Indexed.{places_from}
use Rattle.dt_aggstore.specs.declared.entry_name.EntryName.{EntryName}
use Rattle.dt_aggstore.proofs.Indexing.{all_lie, all_also, length-places_from, values_of-zip, names_beside}
use Rattle.dt_aggstore.proofs.Steps.{cell_is}
use Rattle.dt_aggstore.proofs.store.AggStore.index.Goals as goal

pub returns : goal.returns
returns c = λ past at.
    let self = c.args.self.now in
    let items = self.entries.items in
    let places = places_from 0 (entries_named items) in
    let is : c.index.result.now.entries ≡ zip items places =
    c.index.ensures ∙ ap (λ ps. zip items ps) self.places_are in
    let Cells : EntryName × ℕ → Type 0 = λ e.
    slice_range self.cells.items e.1 (e.1 + cell_words e.0.aggregation.function)
    ≡ cell_of e.0.aggregation.function (bag past.events at.chosen e.0.aggregation e.0.key.parts.items) in
    record {
      chosen = at.chosen;
      choice = at.choice;
      entries = names_beside c.index.result.now.entries ∙ ap (λ es. entries_named (keys_of es)) is
          ∙ ap entries_named (keys_of-zip items places (length-places_from 0 items)) ∙ at.names;
      places = ap values_of is ∙ values_of-zip items places (length-places_from 0 items)
          ∙ ap (places_from 0) at.names;
      cells = subst (AllByRecursion Cells) (sym is)
          (all_also (λ e. LiesAt (entries_named items) (entry_named e.0) e.1) Cells
          (λ e lies. cell_is past self at e.0.aggregation e.0.key.parts.items (pos 0)
          c.cell_length.ensures.words e.1 lies)
          (zip items places) (all_lie items));
    }
