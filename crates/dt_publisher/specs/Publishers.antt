-- The writer of the chains, with what its books hold.
use Rattle.std.specs.Prelude.{◌≡◌, ℕ, ◌+◌, List, [], ◌∷◌, length, slice_get, IfSome}
use Rattle.atomic_table.specs.Seated.{TableId}
use Rattle.dt_chain.specs.Limits.{seat_count}
use Rattle.dt_chain.specs.Writes.{Write, writes_of}
use Rattle.dt_facts.specs.Facts.{nothing, writes_fact}
use Rattle.dt_facts.specs.Handles.{HeldFact, holding}

-- the writer: the word of the facts, the name of the book of seat 0, what is published, and all writes, the oldest first
pub record Publishing : Type 0 where
  pub word : TableId
  pub first : ℕ
  pub published : List Write
  pub writes : List Write

abbrev pub publisher_seen : TableId → ℕ → List Write → List Write → Publishing
publisher_seen word first published writes = record { word = word; first = first; published = published; writes = writes }

-- what the book of a seat holds, and so its share: the seat's own writes among these
abbrev pub own_writes_held : TableId → (first : ℕ) → List Write → (seat : ℕ) → HeldFact
own_writes_held word first writes seat = holding word (first + seat) (writes_fact (writes_of writes seat))

-- There is one for each seat, in order, and it holds the seat's own writes among these.
pub record AreOwnWrites (word : TableId) (first : ℕ) (writes : List Write) (held : List HeldFact) : Type 0 where
  pub many : length held ≡ seat_count
  pub each : (seat : ℕ) → IfSome (slice_get held seat) (λ one. one ≡ own_writes_held word first writes seat)

-- the one of seat 0, which is always there
abbrev pub first_held : List HeldFact → HeldFact
first_held [] = holding (record { words = 0; slots = 0; views_name = 0; atom = 0; block = 0; offset = 0; slot_names = [] }) 0 nothing
first_held (one ∷ rest) = one
