-- The frames so far are written.
use Rattle.std.proofs.Common.{◌≡◌, ◌+◌, ◌*◌, ◌++◌, take}
use Rattle.std.specs.List.{flat_map}
use Rattle.arrayvec.specs.ArrayVec.{array_vec_len}
use Rattle.byteorder.specs.Endian.{big_bytes}
use Rattle.dt_record.proofs.building.put_frames.Given as goal

abbrev pub invariant-loop-frame : goal.invariant-loop-frame
invariant-loop-frame l = record {
  written : l.record.items ≡ l.fn.record.items ++ flat_map (big_bytes 8) (take l.frame-index l.frame-items);
  long : array_vec_len l.record ≡ array_vec_len l.fn.record + 8 * l.frame-index;
}
