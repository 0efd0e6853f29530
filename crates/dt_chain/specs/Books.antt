-- The book of all writes: its rule, and what its steps tell.
use Rattle.std.specs.Prelude.{ℕ, ◌≡◌, ◌<◌, ◌≤◌, ◌+◌, ◌*◌, ◌==◌, true, List, [], ◌∷◌, ◌++◌, length, MatchBool}
use Rattle.logbook.specs.Pages.{Cell, cell, nib, may_make, Step, View, Book, Named}
use Rattle.dt_chain.specs.Writes.{Write}

-- A book has a word for its head, one that stays 0, and one for each write, which is at home once the write is in the list. Up
-- to two words more aren't at home yet: who has the pen of the next one can add a write, and nobody else can. The head
-- says how many writes there are and how many of these words.
pub record IsBookOf (cells : List Cell) (log : List Write) : Type 0 where
  pub away : ℕ
  pub few : away ≤ 2
  pub head : cell cells 0 ≡ (3 * length log + away, true)
  pub size : length cells ≡ length log + 2 + away
  pub homes : (key : ℕ) → key < length log + 2 → (cell cells key).1 ≡ true

-- the word that has the length of a book's list
abbrev pub head_of : Book → Named
head_of book = record { tracked = true; key = 0; book = book }

-- The book got a word more, and its pen, or the head is another. The old head had no word beyond those of the writes, or one.
abbrev pub Reserves : Step Write → View Write ℕ → ℕ → View Write ℕ → Type 0
Reserves step before found after = MatchBool (found == step.old)
    ((key : ℕ) × (key + 2 * length before.0 ≡ step.old + 2) × (after.1.0 ≡ nib may_make key 0)) (Unit {0})

-- The write was added to all that had been seen, or nothing changed.
abbrev pub Adds : Step Write → View Write ℕ → ℕ → View Write ℕ → Type 0
Adds step before found after = MatchBool (found == step.old) (after.0 ≡ before.0 ++ step.ask ∷ [])
    ((after.0 ≡ before.0) × (after.1.0 ≡ before.1.0))

-- The list has no more writes than the pen's word says, and the pen is as it was.
abbrev pub Measures : Step Write → View Write ℕ → ℕ → View Write ℕ → Type 0
Measures step before found after = (length after.0 + 2 ≤ before.1.0.key) × (after.1.0 ≡ before.1.0)

-- a book, and a beginning of its list
pub record Marked : Type 0 where
  pub book : Book
  pub log : List Write
