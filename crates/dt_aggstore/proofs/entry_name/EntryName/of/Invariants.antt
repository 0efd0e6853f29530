-- The parts so far.
use Rattle.std.proofs.Common.{◌≡◌, take}
use Rattle.dt_aggstore.proofs.entry_name.EntryName.of.Given as goal

abbrev pub invariant-loop-part : goal.invariant-loop-part
invariant-loop-part l = record {
  aggregation : l.name.aggregation ≡ l.fn.aggregation;
  parts : l.name.key.parts.items ≡ take l.part-index l.part-items;
}
