-- What the functions of a past give is what the relations say: the answer of a draw, and the bytes of a part.
use Rattle.std.proofs.Common.{◌≡◌, ℕ, zero, suc, ◌+◌, ◌<◌, ◌≤◌, inl, inr, ⊎_elim, Bool, true, false, cond, not, List, [], ◌∷◌, ◌++◌, length, Some, refl, sym, subst, arith}
use Rattle.std.specs.Prelude.{find, fold, unwrap_or, nat_le}
use Rattle.std.specs.List.{range_with_len}
use Rattle.std.proofs.lemmas.Bool.{cases_eq, leb-true, leb-false}
use Rattle.std.proofs.lemmas.List.{append_assoc, append-nil}
use Rattle.dt_buffer.specs.Choice.{ShowsSwitch}
use Rattle.dt_buffer.specs.laws.Choices.{switch_kept, switch_dropped}
use Rattle.dt_speculation.specs.Answers.{DrawAnswers}
use Rattle.dt_speculation.specs.History.{SpecEvent, SpecPast}
use Rattle.dt_speculation.specs.Parts.{draw_answer, part_bytes, with_record}
use Rattle.dt_speculation.specs.Records.{HasPart, records_of}
use Rattle.dt_speculation.specs.Uses.{is_in_use}

module _ (nspec : ℕ) (events : List SpecEvent) where
  -- all from 1 up to this one are in use
  abbrev UsedBelow : ℕ → Type 0
  UsedBelow from = (k : ℕ) → 1 ≤ k → k < from → is_in_use k events ≡ true

  used_more : (from : ℕ) → UsedBelow from → is_in_use from events ≡ true → UsedBelow (from + 1)
  used_more from below here k least less = ⊎_elim
      (λ (e : k ≡ from). subst (λ n. is_in_use n events ≡ true) (sym e) here)
      (λ ne. below k least (omega (arith, less, ne))) (cases_eq k from)

  -- of some numbers from this one on, the first that isn't in use, or 0
  abbrev first_unused : ℕ → ℕ → ℕ
  first_unused from n = unwrap_or (find (λ id. not (is_in_use id events)) (range_with_len from n)) 0

  by_use : (from n : ℕ) → 1 ≤ from → from + suc n ≡ nspec + 1 → UsedBelow from
      → (UsedBelow (from + 1) → DrawAnswers nspec events (first_unused (from + 1) n)) → (b : Bool) → is_in_use from events ≡ b
      → DrawAnswers nspec events
      (unwrap_or (cond (not b) (Some from) (find (λ id. not (is_in_use id events)) (range_with_len (from + 1) n))) 0)
  by_use from n h e below later false u = inl (record { from = h; to = omega (arith, e); free_now = u; least = below })
  by_use from n h e below later true u = later (used_more from below u)

  first_from : (n from : ℕ) → 1 ≤ from → from + n ≡ nspec + 1 → UsedBelow from → DrawAnswers nspec events (first_unused from n)
  first_from zero from h e below = inr (refl, λ k least most. below k least (omega (arith, e, most)))
  first_from (suc n) from h e below =
      by_use from n h e below (first_from n (from + 1) (omega (arith, h)) (omega (arith, e))) (is_in_use from events) refl

-- The answer that the function gives is one of a draw.
pub draw_answers : (past : SpecPast) → DrawAnswers past.nspec past.events (draw_answer past)
draw_answers past = first_from past.nspec past.events past.nspec 1 (omega arith) (omega arith) (λ k least less. absurd (omega (arith, least, less)))

none_shown : (size : ℕ) → ShowsSwitch size [] [] 0
none_shown size = record {
  chosen = [];
  choice = record { whole = refl; exactly = λ i h. absurd (omega (arith, h)) };
  kept = refl;
  dropped = refl;
}

module _ (size : ℕ) where
  abbrev Shown : List (List ℕ) → List ℕ → Type 0
  Shown records part = (d : ℕ) × ShowsSwitch size records part d

  by_room : (done rest : List (List ℕ)) (part r : List ℕ) (drops : ℕ) → ShowsSwitch size done part drops
      → ((next : List ℕ) (d : ℕ) → ShowsSwitch size (done ++ r ∷ []) next d
      → Shown ((done ++ r ∷ []) ++ rest) (fold (with_record size) next rest))
      → (b : Bool) → nat_le (length part + length r) size ≡ b
      → Shown ((done ++ r ∷ []) ++ rest) (fold (with_record size) (cond b (part ++ r) part) rest)
  by_room done rest part r drops s later true e =
      later (part ++ r) drops (switch_kept size done part drops r s (leb-true (length part + length r) size e))
  by_room done rest part r drops s later false e =
      later part (drops + 1) (switch_dropped size done part drops r s (leb-false (length part + length r) size e))

  -- what a switch buffer shows of some records, it shows of more with those that fit
  shown_more : (rest done : List (List ℕ)) (part : List ℕ) (drops : ℕ) → ShowsSwitch size done part drops
      → Shown (done ++ rest) (fold (with_record size) part rest)
  shown_more [] done part drops s = (drops, subst (λ xs. ShowsSwitch size xs part drops) (sym (append-nil done)) s)
  shown_more (r ∷ rest) done part drops s =
      subst (λ xs. Shown xs (fold (with_record size) (with_record size part r) rest)) (append_assoc done (r ∷ []) rest)
      (by_room done rest part r drops s (λ next d. shown_more rest (done ++ r ∷ []) next d)
      (nat_le (length part + length r) size) refl)

-- The bytes that the function gives are those of the part.
pub part_is : (past : SpecPast) (id cpu : ℕ) → HasPart past id cpu (part_bytes past id cpu)
part_is past id cpu = shown_more past.specsize (records_of id cpu past.events) [] [] 0 (none_shown past.specsize)
