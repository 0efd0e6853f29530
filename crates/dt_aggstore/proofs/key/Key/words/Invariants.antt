-- The words of the parts so far.
use Rattle.std.proofs.Common.{◌≡◌, ◌≤◌, ◌*◌, take}
use Rattle.std.specs.List.{sum_by}
use Rattle.dt_aggstore.specs.Keys.{part_words}
use Rattle.dt_aggstore.proofs.key.Key.words.Given as goal

abbrev pub invariant-loop-part : goal.invariant-loop-part
invariant-loop-part l = record {
  counted : l.words ≡ sum_by part_words (take l.part-index l.part-items);
  few : l.words ≤ 4 * l.part-index;
}
