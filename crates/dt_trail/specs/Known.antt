-- What contracts see of an owner, a note and what was told.
use Rattle.std.specs.Prelude.{◌≡◌, ◌≢◌, ◌<◌, ℕ, List, [], ◌∷◌, ◌++◌, length, slice_get, Some}
use Rattle.atomic_blocks.specs.Lent.{RowsId}
use Rattle.dt_trail.specs.declared.law.Named.{Named}
use Rattle.dt_trail.specs.declared.seen.Seen.{Seen}
use Rattle.dt_trail.specs.Items.{TrailItem, whose, IsReal, own, StartsWith}
use Rattle.dt_trail.specs.Kinds.{ShowsItem}

-- an owner: a row, its items, how many cells it has, and how often it was widened
pub record Known (K : Type 0) : Type 0 where
  pub row : Named K
  pub knows : List TrailItem
  pub cells : ℕ
  pub widened : ℕ

-- a note: a row, the note's number, and the items that it knows
pub record Noted (K : Type 0) : Type 0 where
  pub row : Named K
  pub number : ℕ
  pub knows : List TrailItem

-- what was told: items at the beginning of a row
pub record Heard : Type 0 where
  pub row : RowsId
  pub knows : List TrailItem

-- the item at this place of the list shows this
abbrev pub ShowsAt : List TrailItem → ℕ → Seen → Type 0
ShowsAt items k seen = (item : TrailItem) × (slice_get items k ≡ Some item) × ShowsItem seen item

module _ {K : Type 0} where
  abbrev pub named_row : RowsId → K → Named K
  named_row id account = record { id = id; account = account }

  abbrev pub known_row : Named K → List TrailItem → ℕ → ℕ → Known K
  known_row row knows cells widened = record { row = row; knows = knows; cells = cells; widened = widened }

  abbrev pub noted : Named K → ℕ → List TrailItem → Noted K
  noted row number knows = record { row = row; number = number; knows = knows }

  -- the note knows one item more, which isn't its own, and of which this was seen
  pub record KnowsNext (old : Noted K) (seen : Seen) (new : Noted K) : Type 0 where
    pub item : TrailItem
    pub shown : ShowsItem seen item
    pub real : IsReal item
    pub other : whose item ≢ old.number
    pub next : new ≡ noted old.row old.number (old.knows ++ item ∷ [])

  -- the note has lost nothing, and has no more items of its own
  pub record Grows (old new : Noted K) : Type 0 where
    pub row : new.row ≡ old.row
    pub number : new.number ≡ old.number
    pub longer : StartsWith new.knows old.knows
    pub same_own : own old.number new.knows ≡ own old.number old.knows

  -- what a note knows begins these items, which have no more of its own
  abbrev pub Meets : List TrailItem → Noted K → Type 0
  Meets items n = StartsWith items n.knows × (own n.number items ≡ own n.number n.knows)

  -- notes that know nothing, numbered from 0
  abbrev pub AreNew : Named K → ℕ → List (Noted K) → Type 0
  AreNew row count notes = (length notes ≡ count) × ((k : ℕ) → k < count → slice_get notes k ≡ Some (noted row k []))
