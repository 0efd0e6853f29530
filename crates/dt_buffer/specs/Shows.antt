-- What a buffer shows after a past, by its policy, and what it answers to a record.
use Rattle.std.specs.Prelude.{◌≡◌, ℕ, ◌+◌, ◌⊎◌, ◌↔◌, Bool, true, false, List, []}
use Rattle.dt_buffer.specs.History.{BufferPast, attempts, ordinary, of_end, since_swap}
use Rattle.dt_buffer.specs.Choice.{ShowsSwitch, KeepsSwitch}
use Rattle.dt_buffer.specs.Beginning.{ShowsFill, KeepsOrdinary, KeepsOfEnd}
use Rattle.dt_buffer.specs.Ending.{ShowsRing, KeepsRing}
use Rattle.dt_buffer.specs.declared.policy.Policy.{Policy}
use Rattle.dt_buffer.specs.declared.policy.Policy.TheVariants.{Switch, Fill, Ring}
use Rattle.dt_buffer.specs.declared.policy.Put.{Put}
use Rattle.dt_buffer.specs.declared.policy.Put.TheVariants.{Kept, Dropped, Filled}

module _ (past : BufferPast) where
  abbrev pub ShownBy : Policy → List ℕ → ℕ → Bool → Type 0
  ShownBy Switch bytes drops filled =
      ShowsSwitch past.size (since_swap past.events) bytes drops × (filled ≡ false)
  ShownBy Fill bytes drops filled =
      ShowsFill past.size past.reserve (ordinary past.events) (of_end past.events) bytes filled × (drops ≡ 0)
  ShownBy Ring bytes drops filled =
      ShowsRing past.size (attempts past.events) bytes drops × (filled ≡ false)

  -- After the past a buffer shows these bytes and drops, and whether it is filled.
  abbrev pub Shows : List ℕ → ℕ → Bool → Type 0
  Shows = ShownBy past.policy

  abbrev pub HasContent : List ℕ → Type 0
  HasContent bytes = (drops : ℕ) × (filled : Bool) × Shows bytes drops filled

  abbrev pub HasDrops : ℕ → Type 0
  HasDrops drops = (bytes : List ℕ) × (filled : Bool) × Shows bytes drops filled

  abbrev pub IsFilled : Bool → Type 0
  IsFilled filled = (bytes : List ℕ) × (drops : ℕ) × Shows bytes drops filled

  abbrev pub KeptBy : Policy → List ℕ → Bool → Type 0
  KeptBy Switch bytes in_end = KeepsSwitch past.size (since_swap past.events) bytes
  KeptBy Fill bytes false = KeepsOrdinary past.size past.reserve (ordinary past.events) bytes
  KeptBy Fill bytes true = KeepsOfEnd past.size past.reserve (ordinary past.events) (of_end past.events) bytes
  KeptBy Ring bytes in_end = KeepsRing past.size (attempts past.events) bytes

  -- After the past, a buffer keeps this record.
  abbrev pub KeepsRecord : List ℕ → Bool → Type 0
  KeepsRecord = KeptBy past.policy

  -- Under fill, no ordinary record comes after one of END.
  abbrev pub EndLast : Bool → Type 0
  EndLast in_end = past.policy ≡ Fill → in_end ≡ false → of_end past.events ≡ []

  -- what is said of a record that isn't kept
  abbrev pub unkept : Policy → Put
  unkept Switch = Dropped
  unkept Fill = Filled
  unkept Ring = Dropped

  -- What is said of a record: exactly where it is kept, that it is.
  pub record PutAnswers (bytes : List ℕ) (in_end : Bool) (put : Put) : Type 0 where
    pub kept : (put ≡ Kept) ↔ KeepsRecord bytes in_end
    pub otherwise : (put ≡ Kept) ⊎ (put ≡ unkept past.policy)

-- how many drops are counted after an answer
abbrev pub drops_after : Put → ℕ → ℕ
drops_after Kept drops = drops
drops_after Dropped drops = drops + 1
drops_after Filled drops = drops
