-- What the proof of `first_fault` is told at its goals.
use Rattle.std.proofs.Common.{arith}
use Rattle.dt_names.specs.laws.Clean.{scanned_colon, scanned_byte, few_fields, clean_fields}
use Rattle.dt_names.proofs.desc.first_fault.Goals as goal
use Rattle.dt_names.proofs.desc.first_fault.Goals.{then-byte-eq58+else-colons}
use Rattle.dt_names.proofs.desc.first_fault.Goals.{else-byte-eq58+else-not-is_name_byte+else-field_len-eq-FIELD_MAX}

pub loop-byte-preserved : goal.loop-byte-preserved
loop-byte-preserved c =
    elim c.if-byte-eq58.branch [
      | then-byte-eq58+else-colons w ↦
          rw (w.colons-is, w.field_len-is)
          (scanned_colon _ _ _ _ c.loop-byte.invariant (omega arith) w.if-byte-eq58.true (omega arith))
      | else-byte-eq58+else-not-is_name_byte+else-field_len-eq-FIELD_MAX w ↦
          rw (w.colons-is, w.field_len-is)
          (scanned_byte _ _ _ _ c.loop-byte.invariant (omega arith)
          (w.is_name_byte.ensures.0 w.if-not-is_name_byte.false) (omega arith))
    ]

pub returns-clause-few : goal.returns-clause-few
returns-clause-few c = few_fields _ _ _ _ c.loop-byte.invariant (omega arith)

pub returns-clause-each : goal.returns-clause-each
returns-clause-each c = clean_fields _ _ _ _ c.loop-byte.invariant (omega arith)
