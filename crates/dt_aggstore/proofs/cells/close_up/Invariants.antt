-- The cells so far are closed up, and those of the entries left come after.
use Rattle.std.proofs.Common.{◌≡◌, ◌≤◌, ◌++◌, take, drop, length}
use Rattle.std.specs.Vec.{vec_capacity}
use Rattle.dt_aggstore.specs.EntryNames.{entries_named, words_of, cells_without}
use Rattle.dt_aggstore.proofs.cells.close_up.Given as goal

abbrev pub invariant-loop-name : goal.invariant-loop-name
invariant-loop-name l = record {
  down : l.to ≤ l.from;
  from_is : l.from ≡ words_of (entries_named (take l.name-index l.entries));
  long : length l.cells.items ≡ length l.fn.cells.items;
  capacity : vec_capacity l.cells ≡ vec_capacity l.fn.cells;
  left : take l.to l.cells.items ++ cells_without l.aggregation (entries_named (drop l.name-index l.entries))
      (drop l.from l.cells.items)
      ≡ cells_without l.aggregation (entries_named l.entries) l.fn.cells.items;
}
