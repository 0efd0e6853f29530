-- What has come to a principal buffer, and the lists of records in it. Guide, Buffers and Buffering.
use Rattle.std.specs.Prelude.{ℕ, Bool, true, false, List, [], ◌∷◌, ◌++◌, if◌then◌else◌}
use Rattle.dt_buffer.specs.declared.policy.Policy.{Policy}

-- What comes to a buffer: a record is put, by the probe END or another, or a snap swaps it.
pub data BufferEvent : Type 0 where
  attempt : (bytes : List ℕ) → (in_end : Bool) → BufferEvent
  swap : BufferEvent

-- A buffer's past: how it was made, and what came to it since, the oldest first.
pub record BufferPast : Type 0 where
  pub policy : Policy
  pub size : ℕ
  pub reserve : ℕ
  pub events : List BufferEvent

-- the past of a new buffer
abbrev pub new_buffer_past : Policy → ℕ → ℕ → BufferPast
new_buffer_past policy size reserve = record { policy = policy; size = size; reserve = reserve; events = [] }

-- the past, one event longer
abbrev pub buffer_after : BufferPast → BufferEvent → BufferPast
buffer_after past event = record {
  policy = past.policy;
  size = past.size;
  reserve = past.reserve;
  events = past.events ++ event ∷ [];
}

-- the records put, in their order
abbrev pub attempts : List BufferEvent → List (List ℕ)
attempts [] = []
attempts (attempt bytes in_end ∷ later) = bytes ∷ attempts later
attempts (swap ∷ later) = attempts later

-- those of END
abbrev pub of_end : List BufferEvent → List (List ℕ)
of_end [] = []
of_end (attempt bytes true ∷ later) = bytes ∷ of_end later
of_end (attempt bytes false ∷ later) = of_end later
of_end (swap ∷ later) = of_end later

-- the ordinary ones, which are all others
abbrev pub ordinary : List BufferEvent → List (List ℕ)
ordinary [] = []
ordinary (attempt bytes true ∷ later) = ordinary later
ordinary (attempt bytes false ∷ later) = bytes ∷ ordinary later
ordinary (swap ∷ later) = ordinary later

-- whether there is a swap
abbrev pub is_swapped : List BufferEvent → Bool
is_swapped [] = false
is_swapped (attempt bytes in_end ∷ later) = is_swapped later
is_swapped (swap ∷ later) = true

-- the records put since the last swap
abbrev pub since_swap : List BufferEvent → List (List ℕ)
since_swap [] = []
since_swap (attempt bytes in_end ∷ later) = if is_swapped later then since_swap later else bytes ∷ since_swap later
since_swap (swap ∷ later) = since_swap later
