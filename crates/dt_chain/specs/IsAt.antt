-- When `Entries` are at the end of a list of writes.
use Rattle.std.specs.Prelude.{◌≡◌, ◌↔◌, ℕ, List, None, IsTrue, IsSomeAnd, slice_index_or}
use Rattle.std.specs.Option.{option_map}
use Rattle.dt_machine.specs.Interest as interest
use Rattle.dt_chain.specs.Kept.{slot_of}
use Rattle.dt_chain.specs.Lists.{is_seat_listed, ListsHaveRoom}
use Rattle.dt_chain.specs.Writes.{Write, published_on}
use Rattle.dt_chain.specs.declared.entries.Entries.{Entries}

-- `Entries` are at the end of a list of writes: for each seat they keep what its publication says, and each probe lists
-- the seats whose publications have it.
pub record EntriesAreAt (writes : List Write) (entries : Entries) : Type 0 where
  pub kept : (seat : ℕ) → slice_index_or entries.slots seat None ≡ option_map slot_of (published_on writes seat)
  pub listed : (probe seat : ℕ) → IsTrue (is_seat_listed entries.lists probe seat)
      ↔ IsSomeAnd (published_on writes seat) (λ publication. interest.Names publication.probes probe)

-- `Entries` have the room for all that may be published.
abbrev pub HasListRoom : Entries → Type 0
HasListRoom entries = ListsHaveRoom entries.lists
