-- The bytes so far have the item's number where the item takes them.
use Rattle.std.proofs.Common.{◌≡◌, ℕ, ◌+◌, ◌<◌, ◌≤◌, cond, slice_index}
use Rattle.dt_glob.specs.PatternItem.{PatternItem}
use Rattle.dt_glob.specs.Token.{IsToken}
use Rattle.dt_glob.specs.Test.{takes}
use Rattle.dt_glob.proofs.matcher.add_taker.Given as goal

abbrev pub invariant-loop-byte : goal.invariant-loop-byte
invariant-loop-byte l = record {
  below : (item : PatternItem) → IsToken l.token item → (k : ℕ) → k < l.byte
      → slice_index l.takers k ≡ slice_index l.fn.takers k + cond (takes item k) l.place 0;
  later : (k : ℕ) → l.byte ≤ k → slice_index l.takers k ≡ slice_index l.fn.takers k;
}
