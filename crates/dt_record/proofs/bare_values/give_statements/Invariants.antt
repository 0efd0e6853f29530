-- The values of the statements so far, which neither assign nor draw.
use Rattle.std.proofs.Common.{◌≡◌, ◌+◌, ◌*◌, ◌≤◌, length, take, map}
use Rattle.std.specs.List.{flat_map}
use Rattle.arrayvec.specs.ArrayVec.{array_vec_len}
use Rattle.dt_expr.specs.Scene.{scene_of}
use Rattle.dt_locals.specs.LocalsAreAt.{LocalsAreAt}
use Rattle.dt_program.specs.Clause.{form_of_statement}
use Rattle.dt_program.specs.declared.clause.TheConstants.{KEYS_MAX}
use Rattle.dt_record.specs.Pasts.{TracingPast}
use Rattle.dt_record.specs.Taking.{contributed, past_with, perform}
use Rattle.dt_record.proofs.bare_values.give_statements.Given as goal

abbrev pub invariant-loop-statement : goal.invariant-loop-statement
invariant-loop-statement l = record {
  left : (past : TracingPast) → LocalsAreAt past.locals l.fn.locals
      → (length (perform (scene_of l.scene) past (map form_of_statement (take l.statement-index l.statements)))
      ≡ l.statement-index)
      × (l.values.items ≡ flat_map contributed
      (perform (scene_of l.scene) past (map form_of_statement (take l.statement-index l.statements))))
      × (past_with past (perform (scene_of l.scene) past (map form_of_statement (take l.statement-index l.statements))) ≡ past);
  room : array_vec_len l.values ≤ (KEYS_MAX + 1) * l.statement-index;
}
