-- The columns of the parts so far are added.
use Rattle.std.proofs.Common.{◌≡◌, ◌++◌, map, take}
use Rattle.dt_front.specs.Tables.{key_columns}
use Rattle.dt_front.specs.TableForms.{form_of_key_part}
use Rattle.dt_front.proofs.table.push_key.Given as goal

abbrev pub invariant-loop-part : goal.invariant-loop-part
invariant-loop-part l = l.out.items ≡ l.fn.out.items ++ key_columns (map form_of_key_part (take l.part-index l.key))
