-- Records whose layout isn't known yet.
use Rattle.std.specs.Prelude.{◌≡◌, ◌≤◌, ℕ, ◌-◌, ◌==◌, List, ◌++◌, length, Option, None, slice_get, if◌then◌else◌}
use Rattle.std.specs.Option.{unwrap_or}
use Rattle.std.specs.List.{AllByRecursion, flat_map}
use Rattle.std.specs.Int.{from_be_bytes, w32}
use Rattle.dt_record.specs.Layout.{FieldForm, layout_size}
use Rattle.dt_record.specs.Limits.{epid_size}

-- the EPID with which a record begins: the number of its first four bytes, the highest first
abbrev pub epid_of : List ℕ → ℕ
epid_of bytes = from_be_bytes w32 bytes

-- how many bytes a record of an EPID has, which count from 1; 0 where no layout of it is known
abbrev pub known_size : List (Option (List FieldForm)) → ℕ → ℕ
known_size layouts epid = if epid == 0 then 0 else layout_size (unwrap_or (slice_get layouts (epid - 1)) None)

-- a record whose layout is known: it begins with its EPID, and is as long as the EPID's layout says
pub record IsKnown (layouts : List (Option (List FieldForm))) (bytes : List ℕ) : Type 0 where
  pub named : epid_size ≤ known_size layouts (epid_of bytes)
  pub long : length bytes ≡ known_size layouts (epid_of bytes)

-- After some records whose layouts are known comes an EPID of which none is.
pub record ComesUnknown (layouts : List (Option (List FieldForm))) (bytes : List ℕ) (epid : ℕ) : Type 0 where
  pub known : List (List ℕ)
  pub each : AllByRecursion (IsKnown layouts) known
  pub rest : List ℕ
  pub whole : bytes ≡ flat_map (λ one. one) known ++ rest
  pub begins : epid_size ≤ length rest
  pub numbered : epid_of rest ≡ epid
  pub unknown : known_size layouts epid ≡ 0
