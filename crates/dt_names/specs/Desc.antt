-- What a probe description asks for, and which fault a text shows that is none.
use Rattle.std.specs.Prelude.{◌≡◌, ◌≢◌, ℕ, ◌-◌, ◌<◌, ◌≤◌, ◌==◌, Bool, List, [], ◌∷◌, ◌++◌, length, take, replicate, slice_index, count_by}
use Rattle.std.specs.List.{AllByRecursion, slice_split}
use Rattle.dt_names.specs.Bytes.{colon}
use Rattle.dt_names.specs.Name.{IsNameByte}
use Rattle.dt_names.specs.declared.desc.NameFault.{NameFault}
use Rattle.dt_names.specs.declared.desc.NameFault.TheVariants.{BadByte, TooLong, TooManyFields}
use Rattle.dt_names.specs.declared.desc.ProbeDesc.{ProbeDesc}
use Rattle.dt_names.specs.Limits.{field_max, fields_max}

-- the four fields of a description, of which an empty one asks for nothing
pub record Desc : Type 0 where
  pub provider : List ℕ
  pub «module» : List ℕ
  pub function : List ℕ
  pub name : List ℕ

-- a description without where its fields lie
abbrev pub desc_of : ProbeDesc → Desc
desc_of d = record { provider = d.provider.now; «module» = d.module.now; function = d.function.now; name = d.name.now }

abbrev pub is_colon : ℕ → Bool
is_colon byte = byte == colon

-- the parts between the colons
abbrev pub fields : List ℕ → List (List ℕ)
fields text = slice_split is_colon text

-- A field of a description has at most 63 bytes, each of them a name byte.
pub record IsField (field : List ℕ) : Type 0 where
  pub short : length field ≤ field_max
  pub plain : AllByRecursion IsNameByte field

-- The text is one to four fields, and read from right to left they are those of the description: where there are
-- fewer than four, the first ones are empty.
pub record Describes (text : List ℕ) (desc : Desc) : Type 0 where
  pub few : length (fields text) ≤ fields_max
  pub each : AllByRecursion IsField (fields text)
  pub aligned : replicate (fields_max - length (fields text)) [] ++ fields text
      ≡ desc.provider ∷ desc.module ∷ desc.function ∷ desc.name ∷ []

-- the bytes from place `from` on and before place `at` are no colons
abbrev pub NoColonWithin : List ℕ → ℕ → ℕ → Type 0
NoColonWithin text from at = (k : ℕ) → from ≤ k → k < at → slice_index text k ≢ colon

-- The byte at a place shows a fault: one that is neither a name byte nor a colon, the 64th byte of a field, the
-- fourth colon.
abbrev pub ShowsFault : List ℕ → ℕ → NameFault → Type 0
ShowsFault text at BadByte = (IsNameByte (slice_index text at) → ⊥) × (slice_index text at ≢ colon)
ShowsFault text at TooLong = IsNameByte (slice_index text at) × (field_max ≤ at)
    × NoColonWithin text (at - field_max) at
ShowsFault text at TooManyFields = (slice_index text at ≡ colon) × (count_by is_colon (take at text) ≡ fields_max - 1)

-- no byte before this place shows a fault
abbrev pub NoneShown : List ℕ → ℕ → Type 0
NoneShown text at = (k : ℕ) (fault : NameFault) → k < at → ShowsFault text k fault → ⊥

-- the fault that the first byte from the left shows
pub record IsFirstFault (text : List ℕ) (fault : NameFault) : Type 0 where
  pub at : ℕ
  pub within : at < length text
  pub shown : ShowsFault text at fault
  pub none_before : NoneShown text at
