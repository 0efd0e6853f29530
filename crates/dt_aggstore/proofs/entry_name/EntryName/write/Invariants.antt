-- The parts so far.
use Rattle.std.proofs.Common.{◌≡◌, take}
use Rattle.dt_aggstore.proofs.entry_name.EntryName.write.Given as goal

abbrev pub invariant-loop-part : goal.invariant-loop-part
invariant-loop-part l = record {
  aggregation : l.self.aggregation ≡ l.fn.aggregation;
  parts : l.self.key.parts.items ≡ take l.part-index l.part-items;
}
