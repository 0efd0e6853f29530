-- What the entries of a store are named, and what rows are in the words of a table.
use Rattle.std.specs.Prelude.{◌≡◌, ℕ, List, [], ◌∷◌, ◌++◌, map, cond, take, drop}
use Rattle.std.specs.List.{sum_by}
use Rattle.dt_aggfn.specs.Cells.{cell_words}
use Rattle.dt_aggfn.specs.Answers.{form_of_answer}
use Rattle.dt_aggstore.specs.Keys.{Entry, same_aggregation}
use Rattle.dt_aggstore.specs.declared.key.Aggregation.{Aggregation}
use Rattle.dt_aggstore.specs.Table.{RowForm}
use Rattle.dt_aggstore.specs.declared.entry_name.EntryName.{EntryName}
use Rattle.dt_aggstore.specs.declared.key.KeyPart.{KeyPart}
use Rattle.dt_aggstore.specs.declared.key.KeyPart.TheVariants.{Number}
use Rattle.dt_aggstore.specs.declared.row.Row.{Row}
use Rattle.dt_aggstore.specs.declared.row.RowKey.{RowKey}
use Rattle.dt_aggstore.specs.declared.row.RowKey.TheVariants.{Numbers, Parts}

abbrev pub entry_named : EntryName → Entry
entry_named name = record { aggregation = name.aggregation; key = name.key.parts.items }

abbrev pub entries_named : List EntryName → List Entry
entries_named entries = map entry_named entries

-- how many words the cells of entries have
abbrev pub words_of : List Entry → ℕ
words_of entries = sum_by (λ e. cell_words e.aggregation.function) entries

-- the parts of a row's key
abbrev pub key_of_row : RowKey → List KeyPart
key_of_row (Numbers numbers) = map Number numbers.items
key_of_row (Parts parts) = parts.items

abbrev pub form_of_row : Row → RowForm
form_of_row row = record { key = key_of_row row.key; value = form_of_answer row.value }

-- An entry is among some, and as many words as those before it have lie before its cell.
pub record LiesAt (entries : List Entry) (entry : Entry) (place : ℕ) : Type 0 where
  pub before : List Entry
  pub later : List Entry
  pub split : entries ≡ before ++ entry ∷ later
  pub place_is : place ≡ words_of before

-- what is left of the cells of entries where those of an aggregation are taken out
abbrev pub cells_without : Aggregation → List Entry → List ℕ → List ℕ
cells_without aggregation [] cells = []
cells_without aggregation (e ∷ entries) cells =
    cond (same_aggregation aggregation e.aggregation) [] (take (cell_words e.aggregation.function) cells)
    ++ cells_without aggregation entries (drop (cell_words e.aggregation.function) cells)
