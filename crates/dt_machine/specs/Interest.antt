-- Which probes a set has.
use Rattle.std.specs.Prelude.{◌≡◌, ℕ, ◌+◌, Bool, true, List, Some, map, slice_get, slice_index_or}
use Rattle.std.specs.List.{range_with_len}
use Rattle.dt_machine.specs.BitWord.{has_in}
use Rattle.dt_machine.specs.Limits.{probe_id_max}
use Rattle.dt_machine.specs.declared.bit_word.BitWord.{BitWord}
use Rattle.dt_machine.specs.declared.interest.Interest.{Interest}

-- whether a set has the probe of an identifier
abbrev pub has_probe : Interest → ℕ → Bool
has_probe interest id = has_in interest.words id

-- a set as a flag for each identifier
unfoldable pub flags_of : Interest → List Bool
flags_of interest = map (has_probe interest) (range_with_len 0 (probe_id_max + 1))

-- the flags have the probe of this identifier
abbrev pub Names : List Bool → ℕ → Type 0
Names flags id = slice_get flags id ≡ Some true

-- the word of a set in which 64 identifiers lie
abbrev pub word_of_set : Interest → ℕ → BitWord
word_of_set interest at = slice_index_or interest.words at (record { bits = 0 })
