-- The rows so far are added.
use Rattle.std.proofs.Common.{◌≡◌, ◌∷◌, ◌++◌, map, take}
use Rattle.std.specs.List.{flat_map}
use Rattle.dt_names.specs.Bytes.{comma}
use Rattle.dt_aggstore.specs.EntryNames.{form_of_row}
use Rattle.dt_proto.specs.Rows.{row_text}
use Rattle.dt_proto.proofs.rows.push_more_rows.Given as goal

abbrev pub invariant-loop-row : goal.invariant-loop-row
invariant-loop-row l = l.line.items
    ≡ l.fn.line.items ++ flat_map (λ row. comma ∷ row_text row) (map form_of_row (take l.row-index l.rows))
