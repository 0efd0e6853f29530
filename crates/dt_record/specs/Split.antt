-- Records back from their bytes.
use Rattle.std.specs.Prelude.{◌≡◌, ℕ, ℤ, ◌+◌, ◌<◌, ◌^◌, List, [], ◌∷◌, ◌++◌, length, Option, Some, slice_get}
use Rattle.std.specs.List.{flat_map, AllByRecursion}
use Rattle.byteorder.specs.Endian.{big_bytes}
use Rattle.dt_expr.specs.Operators.{wrapped}
use Rattle.dt_names.specs.Limits.{padded_size}
use Rattle.dt_record.specs.Layout.{FieldForm}
use Rattle.dt_record.specs.Layout as layout
use Rattle.dt_record.specs.Taking.{number_bytes, epid_bytes}

-- a value of a record
pub data RecordedForm : Type 0 where
  number : ℤ → RecordedForm
  text : (bytes : List ℕ) → RecordedForm
  frames : List ℕ → RecordedForm

-- its bytes
abbrev pub recorded_bytes : RecordedForm → List ℕ
recorded_bytes (number z) = number_bytes z
recorded_bytes (text bytes) = bytes
recorded_bytes (frames list) = flat_map (big_bytes 8) list

abbrev pub IsFrame : ℕ → Type 0
IsFrame frame = frame < 2 ^ 64

-- so many frames
pub record AreFrames (n : ℕ) (list : List ℕ) : Type 0 where
  pub many : length list ≡ n
  pub each : AllByRecursion IsFrame list

-- A value is one of its field: a signed number of 64 bits, a text with its zeros, so many frames.
abbrev pub FitsField : FieldForm → RecordedForm → Type 0
FitsField layout.number (number z) = wrapped z ≡ z
FitsField layout.text (text bytes) = length bytes ≡ padded_size
FitsField (layout.stack n) (frames list) = AreFrames n list
FitsField (layout.ustack n) (frames list) = AreFrames n list
FitsField _ _ = ⊥

-- as many values as fields, each one of its field
abbrev pub FitAll : List FieldForm → List RecordedForm → Type 0
FitAll [] [] = Unit {0}
FitAll (field ∷ fields) (value ∷ values) = FitsField field value × FitAll fields values
FitAll _ _ = ⊥

-- a record: its EPID, and its values
pub record RecordForm : Type 0 where
  pub epid : ℕ
  pub values : List RecordedForm

abbrev pub record_bytes : RecordForm → List ℕ
record_bytes r = epid_bytes r.epid ++ flat_map recorded_bytes r.values

-- A record of a consumer: EPIDs count from 1, and its values are those of the layout that its EPID names.
pub record IsRecordOf (layouts : List (Option (List FieldForm))) (r : RecordForm) : Type 0 where
  pub place : ℕ
  pub numbered : r.epid ≡ place + 1
  pub small : r.epid < 2 ^ 32
  pub fields : List FieldForm
  pub named : slice_get layouts place ≡ Some (Some fields)
  pub fit : FitAll fields r.values

-- The bytes are these records, one after the other.
pub record IsSplit (layouts : List (Option (List FieldForm))) (bytes : List ℕ) (records : List RecordForm) : Type 0 where
  pub each : AllByRecursion (IsRecordOf layouts) records
  pub whole : flat_map record_bytes records ≡ bytes
