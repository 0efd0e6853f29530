-- What is to come as one goes over the seats of a set: one goes on to the next word where nothing is left of the one that one is at, and takes out a seat.
use Rattle.std.proofs.Common.{◌≡◌, ℕ, ◌+◌, ◌*◌, ◌/◌, ◌%◌, ◌<◌, ◌≤◌, Bool, true, false, cond, eqb, ltb, List, Option, None, get_or, refl, ap, ◌∙◌, arith}
use Rattle.std.proofs.lemmas.Bool.Decides.{nat_tests}
use Rattle.dt_machine.specs.BitWord.{has_bit, has_in}
use Rattle.dt_machine.specs.declared.bit_word.BitWord.{BitWord}
use Rattle.dt_chain.specs.Named.{is_to_come}

next_word : (f : ℕ → Bool) (at word : ℕ) (left : Bool) → left ≡ false
    → cond (eqb at (word + 1)) (f (word + 1)) (cond (ltb (word + 1) at) (f at) false)
    ≡ cond (eqb at word) left (cond (ltb word at) (f at) false)
next_word f at word left none = grind (arith, nat_tests)

pub turned : (words : List BitWord) (word : ℕ) (left : BitWord)
    → ((place : ℕ) → place < 64 → has_bit left place ≡ false) → (seat : ℕ)
    → is_to_come words (word + 1) (get_or words (word + 1) (record { bits = 0 })) seat ≡ is_to_come words word left seat
turned words word left none seat =
    next_word (λ w. has_bit (get_or words w (record { bits = 0 })) (seat % 64)) (seat / 64) word (has_bit left (seat % 64))
    (none (seat % 64) (omega arith))

none_of : (at word : ℕ) (left later : Bool) → left ≡ false → (word < at → later ≡ false)
    → cond (eqb at word) left (cond (ltb word at) later false) ≡ false
none_of at word left later none nor = grind (arith, nat_tests)

-- nothing comes after the last word
pub none_left : (words : List BitWord) (word : ℕ) (left : BitWord) → ((seat : ℕ) → word < seat / 64 → has_in words seat ≡ false)
    → ((place : ℕ) → has_bit left place ≡ false) → (seat : ℕ) → is_to_come words word left seat ≡ false
none_left words word left last none seat =
    none_of (seat / 64) word (has_bit left (seat % 64)) (has_in words seat) (none (seat % 64))
    (last seat)

-- the seat that is taken out
of_word : (at word : ℕ) (left later : Bool) → at ≡ word → cond (eqb at word) left (cond (ltb word at) later false) ≡ left
of_word at word left later e = grind (arith, nat_tests)

pub first_to_come : (words : List BitWord) (word : ℕ) (left : BitWord) (place : ℕ) → place < 64
    → is_to_come words word left (word * 64 + place) ≡ has_bit left place
first_to_come words word left place low =
    of_word ((word * 64 + place) / 64) word (has_bit left ((word * 64 + place) % 64)) (has_in words (word * 64 + place)) (omega (arith, low))
    ∙ ap (has_bit left) (omega (arith, low))

before_of : (at word : ℕ) (left later : Bool) → at ≤ word → (at ≡ word → left ≡ false)
    → cond (eqb at word) left (cond (ltb word at) later false) ≡ false
before_of at word left later less none = grind (arith, nat_tests)

pub none_before : (words : List BitWord) (word : ℕ) (left : BitWord) (place : ℕ) → place < 64
    → ((n : ℕ) → n < place → has_bit left n ≡ false) → (seat : ℕ) → seat < word * 64 + place
    → is_to_come words word left seat ≡ false
none_before words word left place low none seat less =
    before_of (seat / 64) word (has_bit left (seat % 64)) (has_in words seat) (omega (arith, low, less))
    (λ e. none (seat % 64) (omega (arith, low, less, e)))

without_of : (at word : ℕ) (left less later same : Bool) → (at ≡ word → less ≡ cond same false left) → (same ≡ true → at ≡ word)
    → cond (eqb at word) less (cond (ltb word at) later false) ≡ cond same false (cond (eqb at word) left (cond (ltb word at) later false))
without_of at word left less later same changed there = grind (arith, nat_tests)

-- all others stay
pub without_it : (words : List BitWord) (word : ℕ) (left new : BitWord) (place : ℕ) → place < 64
    → ((n : ℕ) → has_bit new n ≡ cond (eqb n place) false (has_bit left n)) → (seat : ℕ)
    → is_to_come words word new seat ≡ cond (eqb seat (word * 64 + place)) false (is_to_come words word left seat)
without_it words word left new place low changed seat =
    without_of (seat / 64) word (has_bit left (seat % 64)) (has_bit new (seat % 64)) (has_in words seat) (eqb seat (word * 64 + place))
    (λ e. changed (seat % 64) ∙ ap (λ b. cond b false (has_bit left (seat % 64))) (same_place seat word place low e))
    (λ same. omega (arith, low, same_seat seat (word * 64 + place) same))
  where
    same_seat : (a b : ℕ) → eqb a b ≡ true → a ≡ b
    same_seat a b e = grind (arith, nat_tests)

    same_place : (seat word place : ℕ) → place < 64 → seat / 64 ≡ word → eqb (seat % 64) place ≡ eqb seat (word * 64 + place)
    same_place seat word place low e = grind (arith, nat_tests)

-- of the one that is taken out no life is left
pub cond_twice : (same left : Bool) (life : Option ℕ)
    → cond (cond same false left) life None ≡ cond same None (cond left life None)
cond_twice true left life = refl
cond_twice false left life = refl
