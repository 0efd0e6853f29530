-- How variables that aren't 0 lie in slots, so that each is found from its home on.
use Rattle.std.specs.Prelude.{◌≡◌, ◌≢◌, ℕ, ◌<◌, ◌≤◌, ◌⊎◌, ℤ, pos, List, [], length, slice_index_or, count_by}
use Rattle.dt_locals.specs.History.{local_of}
use Rattle.dt_locals.specs.Values.{is_set}
use Rattle.dt_locals.specs.declared.slots.LocalSlot.{LocalSlot}
use Rattle.dt_locals.specs.declared.variable.LocalVariable.{LocalVariable}

-- a free slot: its value is 0
abbrev pub free_slot : LocalSlot
free_slot = record { variable = local_of 0 0 []; value = pos 0 }

abbrev pub slot_at : List LocalSlot → ℕ → LocalSlot
slot_at slots place = slice_index_or slots place free_slot

abbrev pub value_at : List LocalSlot → ℕ → ℤ
value_at slots place = (slot_at slots place).value

abbrev pub local_at : List LocalSlot → ℕ → LocalVariable
local_at slots place = (slot_at slots place).variable

-- how many slots aren't free
abbrev pub taken_count : List LocalSlot → ℕ
taken_count slots = count_by (λ slot. is_set slot.value) slots

-- A variable has a value in slots: each slot that is taken for it has that value, and one has where it isn't 0.
pub record HasValue (slots : List LocalSlot) (variable : LocalVariable) (value : ℤ) : Type 0 where
  pub only : (place : ℕ) → value_at slots place ≢ pos 0 → local_at slots place ≡ variable
      → value_at slots place ≡ value
  pub some : value ≢ pos 0
      → (place : ℕ) × (local_at slots place ≡ variable) × (value_at slots place ≡ value)

-- Slots are hashed but for a hole: no variable has two, each lies at its home or later, and but for the hole no slot between
-- is free.
pub record AreHashedBut (home : LocalVariable → ℕ) (slots : List LocalSlot) (hole : ℕ) : Type 0 where
  pub apart : (one other : ℕ) → value_at slots one ≢ pos 0 → value_at slots other ≢ pos 0
      → local_at slots one ≡ local_at slots other → one ≡ other
  pub from : (place : ℕ) → value_at slots place ≢ pos 0 → home (local_at slots place) ≤ place
  pub between : (place passed : ℕ) → value_at slots place ≢ pos 0 → home (local_at slots place) ≤ passed
      → passed ≤ place → passed ≢ hole → value_at slots passed ≢ pos 0

-- Slots are hashed: there is no hole.
abbrev pub AreHashed : (LocalVariable → ℕ) → List LocalSlot → Type 0
AreHashed home slots = AreHashedBut home slots (length slots)

-- A place is found for a variable: it is the first from its home on that is free or taken for it.
pub record IsSlotFor (home : LocalVariable → ℕ) (slots : List LocalSlot) (variable : LocalVariable) (place : ℕ)
    : Type 0 where
  pub within : place < length slots
  pub from : home variable ≤ place
  pub passed : (before : ℕ) → home variable ≤ before → before < place
      → (value_at slots before ≢ pos 0) × (local_at slots before ≢ variable)
  pub here : (value_at slots place ≡ pos 0) ⊎ (local_at slots place ≡ variable)
