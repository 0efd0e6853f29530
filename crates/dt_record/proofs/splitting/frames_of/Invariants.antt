-- The frames so far are the bytes before the rest.
use Rattle.std.proofs.Common.{◌≡◌, ◌+◌, ◌*◌, ◌++◌, length}
use Rattle.std.specs.List.{flat_map, AllByRecursion}
use Rattle.byteorder.specs.Endian.{big_bytes}
use Rattle.dt_record.specs.Split.{IsFrame}
use Rattle.dt_record.proofs.Bytes.{AreBytes}
use Rattle.dt_record.proofs.splitting.frames_of.Given as goal

abbrev pub invariant-loop-i : goal.invariant-loop-i
invariant-loop-i l = record {
  many : length l.frames.items ≡ l.i;
  each : AllByRecursion IsFrame l.frames.items;
  are : AreBytes l.rest;
  long : length l.rest + 8 * l.i ≡ 8 * l.fn.count;
  same : flat_map (big_bytes 8) l.frames.items ++ l.rest ≡ l.bytes;
}
