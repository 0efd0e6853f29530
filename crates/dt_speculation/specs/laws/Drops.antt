-- What one event more adds to the records that parts dropped.
use Rattle.std.proofs.Common.{◌≡◌, ℕ, ◌+◌, ◌≤◌, Bool, cond, List, [], ◌∷◌, ◌++◌, length, refl, sym, ap, ◌∙◌, arith}
use Rattle.std.specs.Prelude.{sum_by}
use Rattle.std.proofs.lemmas.List.Sums.{sum_by-cons}
use Rattle.std.specs.List.{enumerate_from}
use Rattle.std.proofs.lemmas.List.{take-append-le, take_all}
use Rattle.dt_speculation.specs.History.{SpecEvent, SpecPast, spec_after}
use Rattle.dt_speculation.specs.Parts.{first_events, is_dropped, spec_drops}

module _ {X : Type 0} where
  abbrev counted : (ℕ × X → Bool) → ℕ × X → ℕ
  counted p one = cond (p one) 1 0

  -- two tests count alike where they agree at the places from one on
  counted_alike : (p q : ℕ × X → Bool) (xs : List X) (from : ℕ)
      → ((i : ℕ) (x : X) → from ≤ i → i + 1 ≤ from + length xs → p (i, x) ≡ q (i, x))
      → sum_by (counted p) (enumerate_from from xs) ≡ sum_by (counted q) (enumerate_from from xs)
  counted_alike p q [] from alike = refl
  counted_alike p q (x ∷ xs) from alike =
      let at : counted p (from, x) ≡ counted q (from, x) = ap (λ b. cond b 1 0) (alike from x (omega arith) (omega arith)) in
      let rest : sum_by (counted p) (enumerate_from (from + 1) xs) ≡ sum_by (counted q) (enumerate_from (from + 1) xs)
      = counted_alike p q xs (from + 1) (λ i y least most. alike i y (omega (arith, least)) (omega (arith, most))) in
      sum_by-cons (counted p) (from, x) (enumerate_from (from + 1) xs)
      ∙ ap (λ n. n + sum_by (counted p) (enumerate_from (from + 1) xs)) at
      ∙ ap (λ n. counted q (from, x) + n) rest ∙ sym (sum_by-cons (counted q) (from, x) (enumerate_from (from + 1) xs))

  counted_push : (f : ℕ × X → ℕ) (xs : List X) (x : X) (from : ℕ) → sum_by f (enumerate_from from (xs ++ x ∷ []))
      ≡ sum_by f (enumerate_from from xs) + f (from + length xs, x)
  counted_push f [] x from =
      let e : from ≡ from + 0 = omega arith in
      sum_by-cons f (from, x) [] ∙ omega (arith, ap (λ n. f (n, x)) e)
  counted_push f (y ∷ xs) x from =
      let e : (from + 1) + length xs ≡ from + length (y ∷ xs) = omega arith in
      omega (
        arith,
        sum_by-cons f (from, y) (enumerate_from (from + 1) (xs ++ x ∷ [])),
        sum_by-cons f (from, y) (enumerate_from (from + 1) xs),
        ap (λ n. f (n, x)) e,
        counted_push f xs x (from + 1),
      )

module _ (past : SpecPast) (event : SpecEvent) (cpu : ℕ) where
  abbrev here : SpecPast → ℕ × SpecEvent → Bool
  here all one = is_dropped cpu (first_events one.0 all) one.1

  same_before : (i : ℕ) (e : SpecEvent) → 0 ≤ i → i + 1 ≤ 0 + length past.events
      → here (spec_after past event) (i, e) ≡ here past (i, e)
  same_before i e least most =
      ap (λ xs. is_dropped cpu (record { nspec = past.nspec; specsize = past.specsize; events = xs }) e)
      (take-append-le i past.events (event ∷ []) (omega (arith, most)))

  -- the event adds one drop exactly where its part drops it
  pub drops_more : spec_drops (spec_after past event) cpu ≡ spec_drops past cpu + cond (is_dropped cpu past event) 1 0
  drops_more =
      counted_push (counted (here (spec_after past event))) past.events event 0
      ∙ ap (λ n. n + cond (here (spec_after past event) (0 + length past.events, event)) 1 0)
      (counted_alike (here (spec_after past event)) (here past) past.events 0 same_before)
      ∙ ap (λ xs. spec_drops past cpu + cond (is_dropped cpu (record { nspec = past.nspec; specsize = past.specsize; events = xs }) event) 1 0)
      (take-append-le (0 + length past.events) past.events (event ∷ []) (omega arith) ∙ take_all (0 + length past.events) past.events (omega arith))
