-- Whether ECBs have places of clauses that are there, and whether there is room for them.
use Rattle.std.specs.Prelude.{ℕ, ◌<◌, ◌≤◌, All, vec_capacity}
use Rattle.dt_ecb.specs.declared.parts.Ecb.{Ecb}
use Rattle.dt_consumer.specs.declared.ecb_lists.EcbList.{EcbList}
use Rattle.dt_consumer.specs.declared.room.Room.{Room}

-- an ECB has the place of one of so many clauses
abbrev pub IsPlaced : ℕ → Ecb → Type 0
IsPlaced clauses ecb = ecb.clause < clauses

-- each ECB of a list has
abbrev pub ArePlaced : ℕ → EcbList → Type 0
ArePlaced clauses list = All (IsPlaced clauses) list.ecbs.items

-- there is room for so many clauses, for what is known of as many, and for so many ECBs
abbrev pub HasRoomFor : Room → (clauses ecbs : ℕ) → Type 0
HasRoomFor room clauses ecbs =
    (clauses ≤ vec_capacity room.clauses) × (clauses ≤ vec_capacity room.outlines) × (ecbs ≤ vec_capacity room.ecbs)
