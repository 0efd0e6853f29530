-- The longest end of records that fits: that there is exactly one, and one more record after room is made for it.
use Rattle.std.proofs.Common.{◌≡◌, ℕ, zero, suc, ◌+◌, ◌-◌, ◌<◌, ◌≤◌, List, [], ◌∷◌, ◌++◌, length, drop, refl, sym, ap}
use Rattle.std.proofs.Common.{◌∙◌, ⊎_elim, arith}
use Rattle.std.specs.List.{concat}
use Rattle.std.proofs.lemmas.Bool.{cases_lt}
use Rattle.std.proofs.lemmas.List.{length-append, length-drop, length_push, drop-append-le, drop-drop, drop_at}
use Rattle.dt_buffer.specs.laws.Beginnings.{size_push}
use Rattle.dt_buffer.specs.laws.Choices.{concat-push}
use Rattle.dt_buffer.specs.Beginning.{size_of}
use Rattle.dt_buffer.specs.Ending.{IsLongestEnd, lengths_of}
use Rattle.dt_buffer.specs.Stores.{MakesRoom}

pub one_ends : (room : ℕ) (records : List (List ℕ)) (a b : ℕ)
    → IsLongestEnd room records a → IsLongestEnd room records b → a ≡ b
one_ends room records a b x y =
    let below : a ≤ b = x.longest b y.fits in
    let above : b ≤ a = y.longest a x.fits in
    omega arith

longest_cons : (room : ℕ) (bytes : List ℕ) (records : List (List ℕ)) (passed : ℕ) → room < size_of (bytes ∷ records)
    → IsLongestEnd room records passed → (n : ℕ) → size_of (drop n (bytes ∷ records)) ≤ room → suc passed ≤ n
longest_cons room bytes records passed over e zero fits = absurd (omega arith)
longest_cons room bytes records passed over e (suc n) fits =
    let least : passed ≤ n = e.longest n fits in
    omega arith

pub some_ends : (room : ℕ) (records : List (List ℕ)) → (passed : ℕ) × IsLongestEnd room records passed
some_ends room [] = (0, record { within = omega arith; fits = omega arith; longest = λ n _. omega arith })
some_ends room (bytes ∷ records) = ⊎_elim
    (λ (over : room < size_of (bytes ∷ records)).
    let rest = some_ends room records in (
      suc rest.0,
      record {
        within = omega (arith, rest.1.within);
        fits = rest.1.fits;
        longest = longest_cons room bytes records rest.0 over rest.1;
      },
    ))
    (λ (fits : size_of (bytes ∷ records) ≤ room). (
      0,
      record { within = omega arith; fits = fits; longest = λ n _. omega arith },
    ))
    (cases_lt room (size_of (bytes ∷ records)))

-- no bytes, no lengths; and no more lengths than bytes
pub no_lengths : (records : List (List ℕ)) → lengths_of records ≡ [] → concat records ≡ []
no_lengths [] e = refl
no_lengths ([] ∷ records) e = no_lengths records e
no_lengths ((byte ∷ bytes) ∷ records) e = cc

pub few_lengths : (records : List (List ℕ)) → length (lengths_of records) ≤ size_of records
few_lengths [] = omega arith
few_lengths ([] ∷ records) = few_lengths records
few_lengths ((byte ∷ bytes) ∷ records) =
    omega (arith, few_lengths records, length-append bytes (concat records))

pub lengths-append : (records more : List (List ℕ)) → lengths_of (records ++ more) ≡ lengths_of records
    ++ lengths_of more
lengths-append [] more = refl
lengths-append ([] ∷ records) more = lengths-append records more
lengths-append ((byte ∷ bytes) ∷ records) more =
    ap (λ ls. length (byte ∷ bytes) ∷ ls) (lengths-append records more)

-- The oldest record that has bytes goes, and the empty ones before it.
record Goes (records : List (List ℕ)) (oldest : ℕ) (rest : List ℕ) : Type 0 where
  count : ℕ
  within : count ≤ length records
  long : lengths_of (drop count records) ≡ rest
  gone : concat (drop count records) ≡ drop oldest (concat records)
  least : (j : ℕ) → j < count → size_of (drop j records) ≡ size_of records

least_empty : (records : List (List ℕ)) (count : ℕ)
    → ((j : ℕ) → j < count → size_of (drop j records) ≡ size_of records)
    → (j : ℕ) → j < suc count → size_of (drop j ([] ∷ records)) ≡ size_of records
least_empty records count h zero few = refl
least_empty records count h (suc j) few = h j (omega arith)

least_one : (records : List (List ℕ)) (j : ℕ) → j < suc zero → size_of (drop j records) ≡ size_of records
least_one records zero few = refl
least_one records (suc j) few = absurd (omega arith)

goes : (records : List (List ℕ)) (oldest : ℕ) (rest : List ℕ) → lengths_of records ≡ oldest ∷ rest
    → Goes records oldest rest
goes [] oldest rest e = cc
goes ([] ∷ records) oldest rest e =
    let g = goes records oldest rest e in
    record {
      count = suc g.count;
      within = omega (arith, g.within);
      long = g.long;
      gone = g.gone;
      least = least_empty records g.count g.least;
    }
goes ((byte ∷ bytes) ∷ records) oldest rest e =
    let same : length (byte ∷ bytes) ≡ oldest = cc in
    let others : lengths_of records ≡ rest = cc in
    record {
      count = suc zero;
      within = omega arith;
      long = others;
      gone = sym (drop_at (byte ∷ bytes) (concat records) oldest same);
      least = least_one ((byte ∷ bytes) ∷ records);
    }

module _ (size : ℕ) (records : List (List ℕ)) (wanted : ℕ) (bytes lengths : List ℕ)
    (m : MakesRoom size records wanted bytes lengths) where
  module _ (oldest : ℕ) (rest : List ℕ) (e : lengths ≡ oldest ∷ rest) (full : size < length bytes + wanted) where
    gone : Goes (drop m.passed records) oldest rest
    gone = goes (drop m.passed records) oldest rest (sym m.long ∙ e)

    later : (j : ℕ) → drop j (drop m.passed records) ≡ drop (m.passed + j) records
    later j = drop-drop j m.passed records

    least : (n : ℕ) → size_of (drop n records) + wanted ≤ size → m.passed + gone.count ≤ n
    least n fits = ⊎_elim
        (λ (early : n < m.passed + gone.count).
        let after : m.passed ≤ n = m.longest n fits in
        let place : m.passed + (n - m.passed) ≡ n = omega arith in
        let same = gone.least (n - m.passed) (omega arith) in
        let there = ap size_of (later (n - m.passed)) in
        let here = ap (λ k. size_of (drop k records)) place in
        absurd (omega (arith, same, there, here, ap length m.kept)))
        (λ (late : m.passed + gone.count ≤ n). late)
        (cases_lt n (m.passed + gone.count))

    pub room_more : MakesRoom size records wanted (drop oldest bytes) rest
    room_more = record {
      passed = m.passed + gone.count;
      within = omega (arith, gone.within, m.within, length-drop m.passed records);
      kept = ap (λ xs. drop oldest xs) m.kept ∙ sym gone.gone ∙ ap concat (later gone.count);
      long = sym gone.long ∙ ap lengths_of (later gone.count);
      longest = least;
    }

  pub room_all : lengths ≡ [] → bytes ≡ []
  room_all e = m.kept ∙ no_lengths (drop m.passed records) (sym m.long ∙ e)

  pub lengths_within : length lengths ≤ length bytes
  lengths_within = omega (arith, ap length m.kept, ap length m.long, few_lengths (drop m.passed records))

-- a room for a record is made, and the record put into it
module _ (size : ℕ) (records : List (List ℕ)) (bytes lengths attempt : List ℕ)
    (m : MakesRoom size records (length attempt) bytes lengths) (fits : length bytes + length attempt ≤ size) where
  ended : (n : ℕ) → n ≤ length records
      → size_of (drop n (records ++ attempt ∷ [])) ≡ size_of (drop n records) + length attempt
  ended n few = ap size_of (drop-append-le n records (attempt ∷ []) few) ∙ size_push (drop n records) attempt

  longest : (n : ℕ) → size_of (drop n (records ++ attempt ∷ [])) ≤ size → m.passed ≤ n
  longest n h = ⊎_elim
      (λ (late : length records < n). omega (arith, m.within))
      (λ (early : n ≤ length records). m.longest n (omega (arith, ended n early)))
      (cases_lt (length records) n)

  pub ends_more : IsLongestEnd size (records ++ attempt ∷ []) m.passed
  ends_more = record {
    within = omega (arith, m.within, length_push records attempt);
    fits = omega (arith, ended m.passed m.within, ap length m.kept);
    longest = longest;
  }

  pub kept_more : bytes ++ attempt ≡ concat (drop m.passed (records ++ attempt ∷ []))
  kept_more =
      ap (λ xs. xs ++ attempt) m.kept ∙ sym (concat-push (drop m.passed records) attempt)
      ∙ ap concat (sym (drop-append-le m.passed records (attempt ∷ []) m.within))

  pub lengths_more : lengths ++ lengths_of (attempt ∷ []) ≡ lengths_of (drop m.passed (records ++ attempt ∷ []))
  lengths_more =
      ap (λ xs. xs ++ lengths_of (attempt ∷ [])) m.long ∙ sym (lengths-append (drop m.passed records) (attempt ∷ []))
      ∙ ap lengths_of (sym (drop-append-le m.passed records (attempt ∷ []) m.within))
