-- What is still to come as one goes over a mask.
use Rattle.std.specs.Prelude.{ℕ, ◌/◌, ◌%◌, ◌==◌, Bool, false, List, Option, Some, None, if◌then◌else◌, nat_lt, slice_index}
use Rattle.dt_machine.specs.BitWord.{has_bit, has_in}
use Rattle.dt_machine.specs.Limits.{word_bits}
use Rattle.dt_machine.specs.declared.bit_word.BitWord.{BitWord}
use Rattle.dt_chain.specs.declared.named_seats.NamedSeats.{NamedSeats}

-- whether a seat of a set is still to come: of the word that one is at those that are left, and of the words after it all
abbrev pub is_to_come : List BitWord → (word : ℕ) → (left : BitWord) → ℕ → Bool
is_to_come words word left seat =
    if seat / word_bits == word then has_bit left (seat % word_bits)
    else (if nat_lt word (seat / word_bits) then has_in words seat else false)

-- the life that a mask names a seat with, if the seat is still to come
abbrev pub life_left : NamedSeats → ℕ → Option ℕ
life_left named seat =
    if is_to_come named.mask.now.seats.words named.word named.left seat then Some (slice_index named.mask.now.lives seat) else None
