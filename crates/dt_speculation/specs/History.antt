-- What comes to the speculative buffers of a consumer. Guide, Speculative Tracing.
use Rattle.std.specs.Prelude.{ℕ, List, [], ◌∷◌, ◌++◌}

-- An identifier is drawn, and the draw answers it, or 0 where it fails; a record is put under an identifier on a processor;
-- an identifier is freed, by a commit or a discard.
pub data SpecEvent : Type 0 where
  draw : (answer : ℕ) → SpecEvent
  put_under : (id cpu : ℕ) (bytes : List ℕ) → SpecEvent
  free : (id : ℕ) → SpecEvent

-- A past: how many identifiers there are, how many bytes a part has, and all that came, the oldest first.
pub record SpecPast : Type 0 where
  pub nspec : ℕ
  pub specsize : ℕ
  pub events : List SpecEvent

-- the past of new buffers
abbrev pub new_spec_past : ℕ → ℕ → SpecPast
new_spec_past nspec specsize = record { nspec = nspec; specsize = specsize; events = [] }

-- the past, some events longer
abbrev pub specs_then : SpecPast → List SpecEvent → SpecPast
specs_then past events = record { nspec = past.nspec; specsize = past.specsize; events = past.events ++ events }

-- the past, one event longer
abbrev pub spec_after : SpecPast → SpecEvent → SpecPast
spec_after past event = specs_then past (event ∷ [])
