-- The table of pasts, as a function.
use Rattle.std.specs.Prelude.{List, [], map, filter}
use Rattle.std.specs.List.{fold, flat_map}
use Rattle.std.specs.BTreeSet.{insert_key}
use Rattle.dt_aggfn.specs.Answers.{answer_of_bag}
use Rattle.dt_aggstore.specs.Keys.{Entry, key_cmp, same_aggregation}
use Rattle.dt_aggstore.specs.History.{Past}
use Rattle.dt_aggstore.specs.Held.{held_after}
use Rattle.dt_aggstore.specs.Chosen.{choice_of}
use Rattle.dt_aggstore.specs.Table.{joined_bag, RowForm}
use Rattle.dt_aggstore.specs.declared.key.Aggregation.{Aggregation}
use Rattle.dt_aggstore.specs.declared.key.KeyPart.{KeyPart}

-- the keys of an aggregation's entries, each once, rising
abbrev pub rising_keys : Aggregation → List Entry → List (List KeyPart)
rising_keys aggregation entries =
    fold (insert_key key_cmp) []
    (map (λ e. e.key) (filter (λ e. same_aggregation aggregation e.aggregation) entries))

-- a row for each key that is held at the end of some past, rising, with the function of all its values
unfoldable pub table_of : List Past → Aggregation → List RowForm
table_of pasts aggregation =
    map
    (λ key. record {
      key = key;
      value = answer_of_bag aggregation.function (joined_bag aggregation key pasts (map choice_of pasts));
    })
    (rising_keys aggregation (flat_map (λ past. held_after past.events (choice_of past)) pasts))
