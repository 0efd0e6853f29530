-- While its last numbers go, a record has its EPID still.
use Rattle.std.proofs.Common.{◌≤◌}
use Rattle.arrayvec.specs.ArrayVec.{array_vec_len}
use Rattle.dt_record.specs.declared.limits.TheConstants.{EPID_SIZE}
use Rattle.dt_record.proofs.building.shorten.Given as goal

abbrev pub invariant-loop-record : goal.invariant-loop-record
invariant-loop-record l = record {
  epid : EPID_SIZE ≤ array_vec_len l.record;
}

abbrev pub decreases-loop-record : goal.decreases-loop-record
decreases-loop-record l = array_vec_len l.record
