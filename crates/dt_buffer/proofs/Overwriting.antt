-- One more record of a ring store: room is made and the record kept, or it is too long.
use Rattle.std.proofs.Common.{◌≡◌, ℕ, ◌+◌, ◌-◌, ◌<◌, ◌≤◌, Bool, true, false, List, [], ◌∷◌, ◌++◌, length, drop, take, filter, min}
use Rattle.std.proofs.Common.{suc, nat_le, nat_lt, slice_get, Some, None, refl, sym, ap, ◌∙◌, subst, ⊎_elim, arith}
use Rattle.std.specs.List.{concat}
use Rattle.std.proofs.lemmas.Bool.{cases_lt, le-leb, lt-leb, lt-ltb, le-ltb}
use Rattle.std.proofs.lemmas.List.{append-nil, length_push, length-drop, drop_all, drop_at, take_all}
use Rattle.std.proofs.lemmas.List.Elements.{filter-append, All-drop, All-push}
use Rattle.circular_buffer.specs.Buffer.{Buffer, buffer, keep_last}
use Rattle.dt_buffer.proofs.Endings.{ends_more, kept_more, lengths_more, some_ends, room_more, room_all, lengths_within}
use Rattle.dt_buffer.specs.Beginning.{size_of}
use Rattle.dt_buffer.specs.Ending.{AreAllOf, IsLongestEnd, KeepsRing, fitting, too_long, lengths_of}
use Rattle.dt_buffer.specs.Stores.{MakesRoom, RingIsAt}
use Rattle.dt_buffer.specs.declared.ring.RingStore.{RingStore}

-- a test of one more record
filter_yes : (p : List ℕ → Bool) (bytes : List ℕ) → p bytes ≡ true → filter p (bytes ∷ []) ≡ bytes ∷ []
filter_yes p bytes e = rw e refl

filter_no : (p : List ℕ → Bool) (bytes : List ℕ) → p bytes ≡ false → filter p (bytes ∷ []) ≡ []
filter_no p bytes e = rw e refl

module _ (size : ℕ) (attempts : List (List ℕ)) (attempt : List ℕ) where
  fitting_more : length attempt ≤ size → fitting size (attempts ++ attempt ∷ []) ≡ fitting size attempts
      ++ attempt ∷ []
  fitting_more short =
      filter-append (λ bytes. nat_le (length bytes) size) attempts (attempt ∷ [])
      ∙ ap (λ xs. fitting size attempts ++ xs)
      (filter_yes (λ bytes. nat_le (length bytes) size) attempt (le-leb (length attempt) size short))

  fitting_same : size < length attempt → fitting size (attempts ++ attempt ∷ []) ≡ fitting size attempts
  fitting_same over =
      filter-append (λ bytes. nat_le (length bytes) size) attempts (attempt ∷ [])
      ∙ ap (λ xs. fitting size attempts ++ xs)
      (filter_no (λ bytes. nat_le (length bytes) size) attempt (lt-leb (length attempt) size over))
      ∙ append-nil (fitting size attempts)

  too_long_more : size < length attempt → too_long size (attempts ++ attempt ∷ []) ≡ too_long size attempts
      ++ attempt ∷ []
  too_long_more over =
      filter-append (λ bytes. nat_lt size (length bytes)) attempts (attempt ∷ [])
      ∙ ap (λ xs. too_long size attempts ++ xs)
      (filter_yes (λ bytes. nat_lt size (length bytes)) attempt (lt-ltb size (length attempt) over))

  too_long_same : length attempt ≤ size → too_long size (attempts ++ attempt ∷ []) ≡ too_long size attempts
  too_long_same short =
      filter-append (λ bytes. nat_lt size (length bytes)) attempts (attempt ∷ [])
      ∙ ap (λ xs. too_long size attempts ++ xs)
      (filter_no (λ bytes. nat_lt size (length bytes)) attempt (le-ltb size (length attempt) short))
      ∙ append-nil (too_long size attempts)

  -- the newest record is kept if it is short enough
  pub keeps_ring : length attempt ≤ size → KeepsRing size attempts attempt
  keeps_ring short =
      let all = fitting size (attempts ++ attempt ∷ []) in
      let e = some_ends size all in
      let count = ap length (fitting_more short) ∙ length_push (fitting size attempts) attempt in
      let alone = ap (λ xs. size_of (drop (length (fitting size attempts)) xs)) (fitting_more short) in
      let least : e.0 ≤ length (fitting size attempts) = e.1.longest (length (fitting size attempts))
      (omega (
        arith,
        alone,
        ap size_of (drop_at (fitting size attempts) (attempt ∷ []) (length (fitting size attempts)) refl),
        ap length (append-nil attempt),
      )) in
      record { short = short; passed = e.0; newest = e.1; last = omega (arith, count) }

pub room_start : (size : ℕ) (attempts : List (List ℕ)) (wanted : ℕ) (store : RingStore) → RingIsAt size attempts store
    → MakesRoom size (fitting size attempts) wanted store.bytes.items store.lengths.items
room_start size attempts wanted store s = record {
  passed = s.shows.passed;
  within = s.shows.newest.within;
  kept = s.shows.kept;
  long = s.lengths;
  longest = λ n fits. s.shows.newest.longest n (omega arith);
}

module _ (size : ℕ) (attempts : List (List ℕ)) (attempt : List ℕ) (old new : RingStore)
    (s : RingIsAt size attempts old) where
  pub ring_taken : (bytes lengths : List ℕ) → MakesRoom size (fitting size attempts) (length attempt) bytes lengths
      → length bytes + length attempt ≤ size → new.bytes.capacity ≡ size → new.lengths.capacity ≡ size
      → new.bytes.items ≡ bytes ++ attempt → new.lengths.items ≡ lengths ++ lengths_of (attempt ∷ [])
      → new.drops ≡ old.drops → RingIsAt size (attempts ++ attempt ∷ []) new
  ring_taken bytes lengths m fits room places kept long counted =
      let same = sym (fitting_more size attempts attempt (omega arith)) in
      let P : List (List ℕ) → Type 0 = λ xs. IsLongestEnd size xs m.passed in
      record {
        room = room;
        places = places;
        shows = record {
          passed = m.passed;
          newest = subst P same (ends_more size (fitting size attempts) bytes lengths attempt m fits);
          kept = kept ∙ kept_more size (fitting size attempts) bytes lengths attempt m fits
              ∙ ap (λ xs. concat (drop m.passed xs)) same;
          dropped = counted ∙ s.shows.dropped
              ∙ ap length (sym (too_long_same size attempts attempt (omega arith)));
        };
        lengths = long ∙ lengths_more size (fitting size attempts) bytes lengths attempt m fits
            ∙ ap (λ xs. lengths_of (drop m.passed xs)) same;
      }

  pub ring_dropped : size < length attempt → new.bytes.capacity ≡ size → new.lengths.capacity ≡ size
      → new.bytes.items ≡ old.bytes.items → new.lengths.items ≡ old.lengths.items
      → new.drops ≡ old.drops + 1 → RingIsAt size (attempts ++ attempt ∷ []) new
  ring_dropped over room places kept long counted =
      let same = sym (fitting_same size attempts attempt over) in
      let P : List (List ℕ) → Type 0 = λ xs. IsLongestEnd size xs s.shows.passed in
      record {
        room = room;
        places = places;
        shows = record {
          passed = s.shows.passed;
          newest = subst P same s.shows.newest;
          kept = kept ∙ s.shows.kept ∙ ap (λ xs. concat (drop s.shows.passed xs)) same;
          dropped = omega (
            arith,
            s.shows.dropped,
            ap length (too_long_more size attempts attempt over),
            length_push (too_long size attempts) attempt,
          );
        };
        lengths = long ∙ s.lengths ∙ ap (λ xs. lengths_of (drop s.shows.passed xs)) same;
      }

-- what a ring of few items does with them
pub keep_all : (n : ℕ) (xs : List ℕ) → length xs ≤ n → keep_last n xs ≡ xs
keep_all n xs few =
    let none : 0 ≡ length xs - n = omega arith in
    subst (λ (k : ℕ). drop k xs ≡ xs) none refl

pub keep_rest : (xs : List ℕ) (k : ℕ) → keep_last (length xs - k) xs ≡ drop k xs
keep_rest xs k = ⊎_elim
    (λ (few : length xs < k). drop_all (length xs - (length xs - k)) xs (omega arith)
    ∙ sym (drop_all k xs (omega arith)))
    (λ (many : k ≤ length xs).
    let same : k ≡ length xs - (length xs - k) = omega arith in
    subst (λ (j : ℕ). drop j xs ≡ drop k xs) same refl)
    (cases_lt (length xs) k)

pub lengths_one : (attempt : List ℕ) → 0 < length attempt → lengths_of (attempt ∷ []) ≡ length attempt ∷ []
lengths_one [] some = absurd (omega arith)
lengths_one (byte ∷ bytes) some = refl

pub lengths_nil : (attempt : List ℕ) → length attempt ≡ 0 → lengths_of (attempt ∷ []) ≡ []
lengths_nil [] none = refl
lengths_nil (byte ∷ bytes) none = absurd (omega arith)

-- where records are held that have bytes, and all are of one length, this isn't 0
one_length : (records : List (List ℕ)) (n : ℕ) → AreAllOf (lengths_of records) n → 0 < length (lengths_of records) → 0 < n
one_length [] n same some = absurd (omega arith)
one_length ([] ∷ records) n same some = one_length records n same some
one_length ((byte ∷ bytes) ∷ records) n same some =
    let first : length (byte ∷ bytes) ≡ n = same 0 (length (byte ∷ bytes)) (omega arith) in
    omega arith

pub one_length_held : (size : ℕ) (attempts : List (List ℕ)) (store : RingStore) (n : ℕ) → RingIsAt size attempts store
    → AreAllOf store.lengths.items n → 0 < length store.lengths.items → 0 < n
one_length_held size attempts store n s same some =
    let P : List ℕ → Type 0 = λ xs. AreAllOf xs n in
    let Q : List ℕ → Type 0 = λ xs. 0 < length xs in
    one_length (drop s.shows.passed (fitting size attempts)) n (subst P s.lengths same) (subst Q s.lengths some)

split_first : (xs : List ℕ) (x : ℕ) → Some x ≡ slice_get xs 0 → xs ≡ x ∷ drop 1 xs
split_first [] x e = cc
split_first (y ∷ ys) x e = cc

module _ (size : ℕ) (records : List (List ℕ)) (wanted : ℕ) (bytes lengths : List ℕ)
    (m : MakesRoom size records wanted bytes lengths) where
  -- the oldest record goes
  pub room_step : (oldest left : ℕ) (kept rest : List ℕ) → Some oldest ≡ slice_get lengths 0 → rest ≡ drop 1 lengths
      → left ≡ length bytes - oldest → kept ≡ keep_last left bytes → size < length bytes + wanted
      → MakesRoom size records wanted kept rest
  room_step oldest left kept rest first others less kept_is full =
      let K : List ℕ → Type 0 = λ k. MakesRoom size records wanted k rest in
      let R : List ℕ → Type 0 = λ r. MakesRoom size records wanted (drop oldest bytes) r in
      let L : ℕ → Type 0 = λ n. kept ≡ keep_last n bytes in
      subst K (sym (subst L less kept_is ∙ keep_rest bytes oldest))
      (subst R (sym others)
      (room_more size records wanted bytes lengths m oldest (drop 1 lengths) (split_first lengths oldest first) full))

  -- no record is left to go
  pub room_whole : lengths ≡ [] → wanted ≤ size → length bytes + wanted ≤ size
  room_whole none h = omega (arith, ap length (room_all size records wanted bytes lengths m none))

  pub room_places : length bytes + wanted ≤ size → 0 < wanted → length lengths < size
  room_places fits some = omega (arith, lengths_within size records wanted bytes lengths m)

-- where all are the same, the first is, and the last that comes after it in its place
pub first_of : (xs : List ℕ) (n : ℕ) → AreAllOf xs n → 0 < length xs → Some n ≡ slice_get xs 0
first_of [] n same some = absurd (omega arith)
first_of (x ∷ xs) n same some = ap Some (sym (same 0 x (omega arith)))

pub turned : (xs : List ℕ) (n : ℕ) → AreAllOf xs n → 0 < length xs → xs ≡ drop 1 xs ++ n ∷ []
turned [] n same some = absurd (omega arith)
turned (x ∷ []) n same some = ap (λ k. k ∷ []) (same 0 x (omega arith))
turned (x ∷ y ∷ ys) n same some =
    ap (λ k. k ∷ y ∷ ys) (same 0 x (omega arith) ∙ sym (same 1 y (omega arith)))
    ∙ ap (λ ks. y ∷ ks) (turned (y ∷ ys) n (λ k d within. same (suc k) d (omega (arith, within))) (omega arith))

module _ (size : ℕ) (attempts : List (List ℕ)) (attempt : List ℕ) (old new : RingStore)
    (s : RingIsAt size attempts old) where
  -- of records of one length the oldest goes, and the newest takes its place
  pub ring_turned : (left fits : ℕ) (mid : Buffer ℕ) → AreAllOf old.lengths.items (length attempt)
      → 0 < length old.lengths.items → 0 < length attempt → length attempt ≤ size
      → old.bytes.capacity < length old.bytes.items + length attempt
      → left ≡ length old.bytes.items - length attempt
      → mid ≡ buffer (keep_last left old.bytes.items) old.bytes.capacity
      → fits ≡ min (length attempt) (mid.capacity - length mid.items)
      → new.bytes ≡ buffer (mid.items ++ take fits attempt) mid.capacity
      → new.lengths ≡ old.lengths → new.drops ≡ old.drops → RingIsAt size (attempts ++ attempt ∷ []) new
  ring_turned left fits mid same some bytes short full left_is mid_is fits_is filled places counted =
      let kept : List ℕ = keep_last left old.bytes.items in
      let mid_items = ap (λ (b : Buffer ℕ). b.items) mid_is in
      let mid_room = ap (λ (b : Buffer ℕ). b.capacity) mid_is in
      let first = first_of old.lengths.items (length attempt) same some in
      let m = room_step size (fitting size attempts) (length attempt) old.bytes.items old.lengths.items
      (room_start size attempts (length attempt) old s) (length attempt) left kept (drop 1 old.lengths.items) first refl
      left_is refl (omega (arith, s.room)) in
      let less : length kept ≡ length old.bytes.items - (length old.bytes.items - left) =
      length-drop (length old.bytes.items - left) old.bytes.items in
      let there : length kept + length attempt ≤ size = omega (arith, less, s.room, s.shows.newest.fits, ap length s.shows.kept) in
      ring_taken size attempts attempt old new s kept (drop 1 old.lengths.items) m there
      (ap (λ (b : Buffer ℕ). b.capacity) filled ∙ mid_room ∙ s.room)
      (ap (λ (b : Buffer ℕ). b.capacity) places ∙ s.places)
      (ap (λ (b : Buffer ℕ). b.items) filled
      ∙ ap (λ (xs : List ℕ). xs ++ take fits attempt) mid_items
      ∙ ap (λ (xs : List ℕ). kept ++ xs)
      (take_all fits attempt (omega (arith, fits_is, ap length mid_items, mid_room, there, s.room))))
      (ap (λ (b : Buffer ℕ). b.items) places ∙ turned old.lengths.items (length attempt) same some
      ∙ ap (λ xs. drop 1 old.lengths.items ++ xs) (sym (lengths_one attempt bytes)))
      counted

pub none_left : (xs : List ℕ) → slice_get xs 0 ≡ None → xs ≡ []
none_left [] e = refl
none_left (y ∷ ys) e = cc

module _ (size : ℕ) (attempts : List (List ℕ)) (attempt : List ℕ) (old mid new : RingStore)
    (s : RingIsAt size attempts old)
    (makes : (records : List (List ℕ)) → RingIsAt old.bytes.capacity records old
    → MakesRoom old.bytes.capacity (fitting old.bytes.capacity records) (length attempt)
    mid.bytes.items mid.lengths.items)
    (room : (records : List (List ℕ)) → RingIsAt old.bytes.capacity records old
    → length mid.bytes.items + length attempt ≤ old.bytes.capacity)
    (same_room : mid.bytes.capacity ≡ old.bytes.capacity) (same_places : mid.lengths.capacity ≡ old.lengths.capacity)
    (counted : new.drops ≡ old.drops) (fits : ℕ)
    (as_many : fits ≡ min (length attempt) (mid.bytes.capacity - length mid.bytes.items))
    (filled : new.bytes ≡ buffer (mid.bytes.items ++ take fits attempt) mid.bytes.capacity)
  where
    at_capacity : RingIsAt old.bytes.capacity attempts old
    at_capacity = let P : ℕ → Type 0 = λ n. RingIsAt n attempts old in subst P (sym s.room) s

    -- all of it fits
    stored : new.bytes.items ≡ mid.bytes.items ++ attempt
    stored = ap (λ (b : Buffer ℕ). b.items) filled
        ∙ ap (λ (xs : List ℕ). mid.bytes.items ++ xs)
        (take_all fits attempt (omega (arith, as_many, same_room, room attempts at_capacity)))

    put_with : new.lengths.capacity ≡ mid.lengths.capacity
        → new.lengths.items ≡ mid.lengths.items ++ lengths_of (attempt ∷ [])
        → RingIsAt size (attempts ++ attempt ∷ []) new
    put_with places long =
        let P : ℕ → Type 0 = λ n. RingIsAt n (attempts ++ attempt ∷ []) new in
        subst P s.room
        (ring_taken old.bytes.capacity attempts attempt old new at_capacity mid.bytes.items mid.lengths.items
        (makes attempts at_capacity) (room attempts at_capacity)
        (ap (λ (b : Buffer ℕ). b.capacity) filled ∙ same_room)
        (places ∙ same_places ∙ at_capacity.places) stored long counted)

    -- a record with bytes has its length noted
    pub ring_put_some : 0 < length attempt
        → new.lengths ≡ buffer (keep_last mid.lengths.capacity (mid.lengths.items ++ length attempt ∷ []))
        mid.lengths.capacity
        → RingIsAt size (attempts ++ attempt ∷ []) new
    ring_put_some some noted =
        let few = room_places old.bytes.capacity (fitting old.bytes.capacity attempts) (length attempt) mid.bytes.items
        mid.lengths.items (makes attempts at_capacity) (room attempts at_capacity) some in
        put_with (ap (λ (b : Buffer ℕ). b.capacity) noted)
        (ap (λ (b : Buffer ℕ). b.items) noted
        ∙ keep_all mid.lengths.capacity (mid.lengths.items ++ length attempt ∷ [])
        (omega (arith, length_push mid.lengths.items (length attempt), same_places, at_capacity.places))
        ∙ ap (λ xs. mid.lengths.items ++ xs) (sym (lengths_one attempt some)))

    pub ring_put_empty : length attempt ≡ 0 → new.lengths ≡ mid.lengths → RingIsAt size (attempts ++ attempt ∷ []) new
    ring_put_empty none same =
        put_with (ap (λ (b : Buffer ℕ). b.capacity) same)
        (ap (λ (b : Buffer ℕ). b.items) same ∙ sym (append-nil mid.lengths.items)
        ∙ ap (λ xs. mid.lengths.items ++ xs) (sym (lengths_nil attempt none)))

-- all are the same after one more of them, however many are kept
pub all_more : (xs : List ℕ) (n : ℕ) → AreAllOf xs n → AreAllOf (xs ++ n ∷ []) n
all_more xs n same = All-push (λ k. k ≡ n) xs n same refl

pub all_last : (xs : List ℕ) (n k : ℕ) → AreAllOf xs n → AreAllOf (keep_last k xs) n
all_last xs n k same = All-drop (λ m. m ≡ n) (length xs - k) xs same

pub all_rest : (xs : List ℕ) (n : ℕ) → AreAllOf xs n → AreAllOf (drop 1 xs) n
all_rest xs n same = All-drop (λ m. m ≡ n) 1 xs same
