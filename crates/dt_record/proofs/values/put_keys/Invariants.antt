-- The keys so far have their values.
use Rattle.std.proofs.Common.{◌≡◌, ◌+◌, ◌++◌, List, Some, take, map}
use Rattle.arrayvec.specs.ArrayVec.{array_vec_len}
use Rattle.dt_expr.specs.Scene.{scene_of}
use Rattle.dt_expr.specs.declared.text.Value.{Value as ShownValue}
use Rattle.dt_locals.specs.History.{LocalsPast}
use Rattle.dt_locals.specs.LocalsAreAt.{LocalsAreAt}
use Rattle.dt_program.specs.Clause.{form_of_argument}
use Rattle.dt_record.specs.Taking as spec
use Rattle.dt_record.specs.Taking.{each}
use Rattle.dt_record.proofs.values.put_keys.Given as goal

abbrev pub invariant-loop-key : goal.invariant-loop-key
invariant-loop-key l = record {
  given : (past : LocalsPast) → LocalsAreAt past l.locals → (given : List ShownValue)
      × (each (spec.argument_value (scene_of l.scene) past) (map form_of_argument (take l.key-index l.keys)) ≡ Some given)
      × (l.values.items ≡ l.fn.values.items ++ given);
  long : array_vec_len l.values ≡ array_vec_len l.fn.values + l.key-index;
}
