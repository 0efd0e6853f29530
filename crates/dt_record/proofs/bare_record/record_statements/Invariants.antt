-- The record of the statements so far, which neither assign nor draw.
use Rattle.std.proofs.Common.{◌≡◌, ◌+◌, ◌*◌, ◌≤◌, ◌++◌, length, take, map}
use Rattle.std.specs.List.{flat_map}
use Rattle.arrayvec.specs.ArrayVec.{array_vec_len}
use Rattle.dt_cred.specs.declared.firing.TheConstants.{FRAMES}
use Rattle.dt_expr.specs.Scene.{scene_of}
use Rattle.dt_locals.specs.LocalsAreAt.{LocalsAreAt}
use Rattle.dt_program.specs.Clause.{form_of_statement}
use Rattle.dt_record.specs.Pasts.{TracingPast}
use Rattle.dt_record.specs.Taking.{epid_bytes, past_with, perform, recorded}
use Rattle.dt_record.specs.declared.limits.TheConstants.{EPID_SIZE}
use Rattle.dt_record.proofs.bare_record.record_statements.Given as goal

abbrev pub invariant-loop-statement : goal.invariant-loop-statement
invariant-loop-statement l = record {
  left : (past : TracingPast) → LocalsAreAt past.locals l.fn.locals
      → (length (perform (scene_of l.scene) past (map form_of_statement (take l.statement-index l.statements)))
      ≡ l.statement-index)
      × (l.record.items ≡ epid_bytes l.fn.epid ++ flat_map recorded
      (perform (scene_of l.scene) past (map form_of_statement (take l.statement-index l.statements))))
      × (past_with past (perform (scene_of l.scene) past (map form_of_statement (take l.statement-index l.statements))) ≡ past);
  room : array_vec_len l.record ≤ EPID_SIZE + 8 * FRAMES * l.statement-index;
}
