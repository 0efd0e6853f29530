-- A past shows exactly one thing.
use Rattle.std.proofs.Common.{◌≡◌, ℕ, ◌-◌, ◌<◌, ◌≤◌, ◌⊎◌, ◌↔◌, Bool, true, false, List, ◌++◌, length, take, drop, refl}
use Rattle.std.proofs.Common.{sym, ap, ◌∙◌, subst, inl, inr, ⊎_elim, IsTrue, arith}
use Rattle.std.specs.List.{concat}
use Rattle.std.proofs.lemmas.Bool.{cases_lt, false≢true}
use Rattle.dt_buffer.specs.laws.Beginnings.{one_begins, some_begins}
use Rattle.dt_buffer.proofs.Choices.{one_switch, some_switch, same_bits}
use Rattle.dt_buffer.proofs.Endings.{one_ends, some_ends}
use Rattle.dt_buffer.specs.Beginning.{IsLongestBeginning, ShowsFill, size_of}
use Rattle.dt_buffer.specs.Ending.{ShowsRing, fitting, too_long}
use Rattle.dt_buffer.specs.History.{BufferPast, attempts, ordinary, of_end, since_swap}
use Rattle.dt_buffer.specs.Shows.{Shows, ShownBy}
use Rattle.dt_buffer.specs.declared.policy.Policy.{Policy}
use Rattle.dt_buffer.specs.declared.policy.Policy.TheVariants.{Switch, Fill, Ring}

module _ (size reserve : ℕ) (ordinary of_end : List (List ℕ)) where
  same_last : (first : ℕ) (k : ℕ) (a b : ℕ) → first ≡ k
      → IsLongestBeginning (size - size_of (take first ordinary)) of_end a
      → IsLongestBeginning (size - size_of (take k ordinary)) of_end b → a ≡ b
  same_last first k a b e x y =
      let P : ℕ → Type 0 = λ n. IsLongestBeginning (size - size_of (take n ordinary)) of_end a in
      one_begins (size - size_of (take k ordinary)) of_end a b (subst P e x) y

  one_fill : (bytes other : List ℕ) (filled full : Bool) → ShowsFill size reserve ordinary of_end bytes filled
      → ShowsFill size reserve ordinary of_end other full → (bytes ≡ other) × (filled ≡ full)
  one_fill bytes other filled full s t =
      let first = one_begins (size - reserve) ordinary s.first t.first s.ordinary_kept t.ordinary_kept in
      let last = same_last s.first t.first s.last t.last first s.end_kept t.end_kept in
      let P : ℕ → ℕ → Type 0 = λ m n. IsTrue filled ↔ ((m < length ordinary) ⊎ (n < length of_end)) in (
        s.kept ∙ ap (λ n. concat (take n ordinary) ++ concat (take s.last of_end)) first
            ∙ ap (λ n. concat (take t.first ordinary) ++ concat (take n of_end)) last ∙ sym t.kept,
        same_bits filled full ((t.first < length ordinary) ⊎ (t.last < length of_end))
            (subst (λ (n : ℕ). P t.first n) last (subst (λ (m : ℕ). P m s.last) first s.is_filled)) t.is_filled,
      )

  -- a test for two bounds
  some_bit : (a b c d : ℕ) → (filled : Bool) × (IsTrue filled ↔ ((a < b) ⊎ (c < d)))
  some_bit a b c d = ⊎_elim
      (λ (x : a < b). (true, ((λ _. inl x), (λ _. refl))))
      (λ (x : b ≤ a). ⊎_elim
      (λ (y : c < d). (true, ((λ _. inr y), (λ _. refl))))
      (λ (y : d ≤ c). (
        false,
        (
          (λ t. absurd (false≢true t)),
          (λ e. absurd (⊎_elim (λ (u : a < b). omega arith) (λ (u : c < d). omega arith) e)),
        ),
      ))
      (cases_lt c d))
      (cases_lt a b)

  some_fill : (bytes : List ℕ) × (filled : Bool) × ShowsFill size reserve ordinary of_end bytes filled
  some_fill =
      let first = some_begins (size - reserve) ordinary in
      let last = some_begins (size - size_of (take first.0 ordinary)) of_end in
      let bit = some_bit first.0 (length ordinary) last.0 (length of_end) in (
        concat (take first.0 ordinary) ++ concat (take last.0 of_end),
        bit.0,
        record {
          first = first.0;
          last = last.0;
          ordinary_kept = first.1;
          end_kept = last.1;
          kept = refl;
          is_filled = bit.1;
        },
      )

one_ring : (size : ℕ) (records : List (List ℕ)) (bytes other : List ℕ) (drops count : ℕ)
    → ShowsRing size records bytes drops → ShowsRing size records other count → (bytes ≡ other) × (drops ≡ count)
one_ring size records bytes other drops count s t =
    let passed = one_ends size (fitting size records) s.passed t.passed s.newest t.newest in (
      s.kept ∙ ap (λ n. concat (drop n (fitting size records))) passed ∙ sym t.kept,
      s.dropped ∙ sym t.dropped,
    )

some_ring : (size : ℕ) (records : List (List ℕ)) → (bytes : List ℕ) × (drops : ℕ) × ShowsRing size records bytes drops
some_ring size records =
    let e = some_ends size (fitting size records) in (
      concat (drop e.0 (fitting size records)),
      length (too_long size records),
      record { passed = e.0; newest = e.1; kept = refl; dropped = refl },
    )

one_by : (past : BufferPast) (policy : Policy) (bytes other : List ℕ) (drops count : ℕ) (filled full : Bool)
    → ShownBy past policy bytes drops filled → ShownBy past policy other count full
    → (bytes ≡ other) × (drops ≡ count) × (filled ≡ full)
one_by past Switch bytes other drops count filled full s t =
    let same = one_switch past.size (since_swap past.events) bytes other drops count s.0 t.0 in
    (same.0, same.1, s.1 ∙ sym t.1)
one_by past Fill bytes other drops count filled full s t =
    let same = one_fill past.size past.reserve (ordinary past.events) (of_end past.events) bytes other filled full
    s.0 t.0 in
    (same.0, s.1 ∙ sym t.1, same.1)
one_by past Ring bytes other drops count filled full s t =
    let same = one_ring past.size (attempts past.events) bytes other drops count s.0 t.0 in
    (same.0, same.1, s.1 ∙ sym t.1)

pub one_thing : (past : BufferPast) (bytes other : List ℕ) (drops count : ℕ) (filled full : Bool)
    → Shows past bytes drops filled → Shows past other count full
    → (bytes ≡ other) × (drops ≡ count) × (filled ≡ full)
one_thing past = one_by past past.policy

some_by : (past : BufferPast) (policy : Policy)
    → (bytes : List ℕ) × (drops : ℕ) × (filled : Bool) × ShownBy past policy bytes drops filled
some_by past Switch =
    let s = some_switch past.size (since_swap past.events) in
    (s.0, s.1, false, (s.2, refl))
some_by past Fill =
    let s = some_fill past.size past.reserve (ordinary past.events) (of_end past.events) in
    (s.0, 0, s.1, (s.2, refl))
some_by past Ring =
    let s = some_ring past.size (attempts past.events) in
    (s.0, s.1, false, (s.2, refl))

pub some_thing : (past : BufferPast)
    → (bytes : List ℕ) × (drops : ℕ) × (filled : Bool) × Shows past bytes drops filled
some_thing past = some_by past past.policy
