-- The entries so far that stay are in the index, each with its place.
use Rattle.std.proofs.Common.{◌+◌, ◌≤◌, take}
use Rattle.indexmap.specs.IndexMap.{index_map_len, spare}
use Rattle.dt_aggstore.specs.EntryNames.{entries_named}
use Rattle.dt_aggstore.proofs.Indexing.{ArePut}
use Rattle.dt_aggstore.proofs.entry_index.put_others.Given as goal

abbrev pub invariant-loop-name : goal.invariant-loop-name
invariant-loop-name l = record {
  put : ArePut l.aggregation (entries_named (take l.name-index l.entries)) l.index.entries l.place;
  room : spare l.fn.index ≤ index_map_len l.index + spare l.index;
  few : index_map_len l.index ≤ l.name-index;
}
