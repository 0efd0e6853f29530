-- What each policy's store holds after some records.
use Rattle.std.specs.Prelude.{◌≡◌, ℕ, ◌+◌, ◌-◌, ◌<◌, ◌≤◌, ◌↔◌, Bool, List, ◌++◌, IsTrue, length, take, drop}
use Rattle.std.specs.List.{concat}
use Rattle.dt_buffer.specs.Choice.{ShowsSwitch}
use Rattle.dt_buffer.specs.Beginning.{IsLongestBeginning, size_of}
use Rattle.dt_buffer.specs.Ending.{ShowsRing, fitting, lengths_of}
use Rattle.dt_buffer.specs.declared.fill.FillStore.{FillStore}
use Rattle.dt_buffer.specs.declared.ring.RingStore.{RingStore}
use Rattle.dt_buffer.specs.declared.switch.SwitchStore.{SwitchStore}

-- A switch store holds what the definition says, and counts the drops.
pub record SwitchIsAt (size : ℕ) (attempts : List (List ℕ)) (store : SwitchStore) : Type 0 where
  pub same_size : store.size ≡ size
  pub shows : ShowsSwitch size attempts store.kept.items store.drops

-- What a fill store holds, and which of the two kinds of records it keeps no more: those of which it didn't keep one.
pub record FillHolds (size reserve : ℕ) (ordinary of_end : List (List ℕ)) (bytes : List ℕ) (no_ordinary no_end : Bool)
    : Type 0 where
  pub first : ℕ
  pub last : ℕ
  pub ordinary_kept : IsLongestBeginning (size - reserve) ordinary first
  pub end_kept : IsLongestBeginning (size - size_of (take first ordinary)) of_end last
  pub kept : bytes ≡ concat (take first ordinary) ++ concat (take last of_end)
  pub ordinary_filled : IsTrue no_ordinary ↔ (first < length ordinary)
  pub end_filled : IsTrue no_end ↔ (last < length of_end)

-- A fill store holds what the definition says.
pub record FillIsAt (size reserve : ℕ) (ordinary of_end : List (List ℕ)) (store : FillStore) : Type 0 where
  pub same_size : store.size ≡ size
  pub same_reserve : store.reserve ≡ reserve
  pub holds : FillHolds size reserve ordinary of_end store.kept.items store.ordinary_filled store.end_filled

-- A ring store has its room, holds what the definition says, and the lengths of the records that it holds.
pub record RingIsAt (size : ℕ) (attempts : List (List ℕ)) (store : RingStore) : Type 0 where
  pub room : store.bytes.capacity ≡ size
  pub places : store.lengths.capacity ≡ size
  pub shows : ShowsRing size attempts store.bytes.items store.drops
  pub lengths : store.lengths.items ≡ lengths_of (drop shows.passed (fitting size attempts))

-- A ring store holds the records after the first `passed`, and no end that begins earlier leaves the wanted room.
pub record MakesRoom (size : ℕ) (records : List (List ℕ)) (wanted : ℕ) (bytes lengths : List ℕ) : Type 0 where
  pub passed : ℕ
  pub within : passed ≤ length records
  pub kept : bytes ≡ concat (drop passed records)
  pub long : lengths ≡ lengths_of (drop passed records)
  pub longest : (n : ℕ) → size_of (drop n records) + wanted ≤ size → passed ≤ n
