-- What the statements so far leave, and how much; where variables and speculations are after them.
use Rattle.std.proofs.Common.{◌≡◌, ◌+◌, ◌*◌, ◌≤◌, length, take, map}
use Rattle.arrayvec.specs.ArrayVec.{array_vec_len}
use Rattle.dt_cred.specs.declared.firing.TheConstants.{FRAMES}
use Rattle.dt_expr.specs.Scene.{scene_of}
use Rattle.dt_locals.specs.LocalsAreAt.{local_drops_of}
use Rattle.dt_program.specs.Clause.{form_of_statement}
use Rattle.dt_program.specs.declared.clause.TheConstants.{KEYS_MAX}
use Rattle.dt_speculation.specs.IsAt.{cpus_of, fails_of}
use Rattle.dt_record.specs.Forms.{form_of_taken}
use Rattle.dt_record.specs.Left.{record_len}
use Rattle.dt_record.specs.Pasts.{TracingPast}
use Rattle.dt_record.specs.Taking.{past_with, perform, taken_of}
use Rattle.dt_record.specs.TracingAt.{TracingAt}
use Rattle.dt_record.specs.declared.limits.TheConstants.{EPID_SIZE}
use Rattle.dt_record.proofs.parts.Taken.take_statements.Given as goal

abbrev pub invariant-loop-statement : goal.invariant-loop-statement
invariant-loop-statement l = record {
  left : (past : TracingPast) → TracingAt past l.fn.locals l.fn.specs
      → (length (perform (scene_of l.scene) past (map form_of_statement (take l.statement-index l.statements)))
      ≡ l.statement-index)
      × (form_of_taken l.self ≡ taken_of l.fn.epid (map form_of_statement l.statements)
      (perform (scene_of l.scene) past (map form_of_statement (take l.statement-index l.statements))))
      × TracingAt (past_with past (perform (scene_of l.scene) past (map form_of_statement (take l.statement-index l.statements))))
      l.locals l.specs;
  record_room : record_len l.self.bytes ≤ EPID_SIZE + 8 * FRAMES * l.statement-index;
  values_room : array_vec_len l.self.values ≤ (KEYS_MAX + 1) * l.statement-index;
  ends_room : array_vec_len l.self.ends ≤ l.statement-index;
  dropped : local_drops_of l.locals ≤ local_drops_of l.fn.locals + l.statement-index;
  failed : fails_of l.specs ≤ fails_of l.fn.specs + l.statement-index;
  cpus : cpus_of l.specs ≡ cpus_of l.fn.specs;
}
