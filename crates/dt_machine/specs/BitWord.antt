-- Which numbers a word has.
use Rattle.std.specs.Prelude.{ℕ, ◌/◌, ◌%◌, Bool, ◌==◌, ◌&&◌, List, slice_index_or}
use Rattle.std.specs.Int.{bit_at}
use Rattle.dt_machine.specs.Limits.{word_bits}
use Rattle.dt_machine.specs.declared.bit_word.BitWord.{BitWord}

-- whether a number is in a word
abbrev pub has_bit : BitWord → ℕ → Bool
has_bit word number = bit_at word.bits number == 1

-- A word with one number fewer weighs less.
abbrev pub weight_of : BitWord → ℕ
weight_of word = word.bits

-- whether a number is in the words of a larger set
abbrev pub has_in : List BitWord → ℕ → Bool
has_in words number = has_bit (slice_index_or words (number / word_bits) (record { bits = 0 })) (number % word_bits)

-- whether a number is one of those of a word of a larger set
abbrev pub is_in_word : (at : ℕ) → BitWord → (number : ℕ) → Bool
is_in_word at word number = (number / word_bits == at) && has_bit word (number % word_bits)
