-- The longest beginning of records that fits: one more record, and that there is exactly one.
use Rattle.std.proofs.Common.{◌≡◌, ℕ, zero, suc, ◌+◌, ◌-◌, ◌<◌, ◌≤◌, List, [], ◌∷◌, ◌++◌, length, take, ap, ◌∙◌, ⊎_elim}
use Rattle.std.proofs.Common.{arith}
use Rattle.std.specs.List.{concat}
use Rattle.std.proofs.lemmas.Bool.{cases_lt}
use Rattle.std.proofs.lemmas.List.{length-append, length_push, take-append-le, take_all}
use Rattle.dt_buffer.specs.laws.Choices.{concat-push}
use Rattle.dt_buffer.specs.Beginning.{IsLongestBeginning, size_of}

pub size_push : (records : List (List ℕ)) (bytes : List ℕ)
    → size_of (records ++ bytes ∷ []) ≡ size_of records + length bytes
size_push records bytes = ap length (concat-push records bytes) ∙ length-append (concat records) bytes

pub size_all : (records : List (List ℕ)) → size_of (take (length records) records) ≡ size_of records
size_all records = ap size_of (take_all (length records) records (omega arith))

pub begins_all : (room : ℕ) (records : List (List ℕ)) → size_of records ≤ room
    → IsLongestBeginning room records (length records)
begins_all room records h = record {
  within = omega arith;
  fits = omega (arith, size_all records);
  longest = λ n few _. few;
}

pub begins_none : (room : ℕ) → IsLongestBeginning room [] 0
begins_none room = record { within = omega arith; fits = omega arith; longest = λ n few _. few }

pub one_begins : (room : ℕ) (records : List (List ℕ)) (a b : ℕ)
    → IsLongestBeginning room records a → IsLongestBeginning room records b → a ≡ b
one_begins room records a b x y =
    let below : a ≤ b = y.longest a x.within x.fits in
    let above : b ≤ a = x.longest b y.within y.fits in
    omega arith

module _ (room : ℕ) (records : List (List ℕ)) (bytes : List ℕ) (count : ℕ)
    (b : IsLongestBeginning room records count) where
  -- a beginning that has not all of them leaves no room for all
  pub past_room : count < length records → room < size_of records
  past_room few = ⊎_elim
      (λ (over : room < size_of records). over)
      (λ (fits : size_of records ≤ room).
      let most : length records ≤ count =
      b.longest (length records) (omega arith) (omega (arith, size_all records)) in
      absurd (omega arith))
      (cases_lt room (size_of records))

  longest_more : room < size_of records + length bytes → (n : ℕ) → n ≤ length (records ++ bytes ∷ [])
      → size_of (take n (records ++ bytes ∷ [])) ≤ room → n ≤ count
  longest_more over n h fits = ⊎_elim
      (λ (late : length records < n).
      let whole = ap size_of (take_all n (records ++ bytes ∷ []) (omega (arith, length_push records bytes))) in
      absurd (omega (arith, whole, size_push records bytes)))
      (λ (early : n ≤ length records).
      let same = ap size_of (take-append-le n records (bytes ∷ []) early) in
      b.longest n early (omega (arith, same)))
      (cases_lt (length records) n)

  -- one more record that is not kept changes nothing
  pub begins_same : room < size_of records + length bytes → IsLongestBeginning room (records ++ bytes ∷ []) count
  begins_same over = record {
    within = omega (arith, length_push records bytes, b.within);
    fits = omega (arith, ap size_of (take-append-le count records (bytes ∷ []) b.within), b.fits);
    longest = longest_more over;
  }

longest_cons : (room : ℕ) (bytes : List ℕ) (records : List (List ℕ)) (count : ℕ) → length bytes ≤ room
    → IsLongestBeginning (room - length bytes) records count
    → (n : ℕ) → n ≤ suc (length records) → size_of (take n (bytes ∷ records)) ≤ room → n ≤ suc count
longest_cons room bytes records count h b zero few fits = omega arith
longest_cons room bytes records count h b (suc n) few fits =
    let most : n ≤ count = b.longest n (omega arith)
    (omega (arith, length-append bytes (concat (take n records)))) in
    omega arith

longest_none : (room : ℕ) (bytes : List ℕ) (records : List (List ℕ)) → room < length bytes
    → (n : ℕ) → n ≤ suc (length records) → size_of (take n (bytes ∷ records)) ≤ room → n ≤ 0
longest_none room bytes records over zero few fits = omega arith
longest_none room bytes records over (suc n) few fits =
    absurd (omega (arith, length-append bytes (concat (take n records))))

begins_cons : (room : ℕ) (bytes : List ℕ) (records : List (List ℕ)) (count : ℕ) → length bytes ≤ room
    → IsLongestBeginning (room - length bytes) records count → IsLongestBeginning room (bytes ∷ records) (suc count)
begins_cons room bytes records count h b = record {
  within = omega (arith, b.within);
  fits = omega (arith, b.fits, length-append bytes (concat (take count records)));
  longest = longest_cons room bytes records count h b;
}

pub some_begins : (room : ℕ) (records : List (List ℕ)) → (count : ℕ) × IsLongestBeginning room records count
some_begins room [] = (0, begins_none room)
some_begins room (bytes ∷ records) = ⊎_elim
    (λ (over : room < length bytes). (
      0,
      record {
        within = omega arith;
        fits = omega arith;
        longest = longest_none room bytes records over;
      },
    ))
    (λ (fits : length bytes ≤ room).
    let rest = some_begins (room - length bytes) records in
    (suc rest.0, begins_cons room bytes records rest.0 fits rest.1))
    (cases_lt room (length bytes))
