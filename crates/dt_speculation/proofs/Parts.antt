-- A part that takes a record or drops it.
use Rattle.std.proofs.Common.{◌≡◌, ℕ, ◌+◌, ◌<◌, ◌≤◌, ◌↔◌, Bool, false, List, [], ◌∷◌, ◌++◌, length, get_or}
use Rattle.std.proofs.Common.{refl, sym, ap, ◌∙◌, subst, IsTrue, arith}
use Rattle.dt_buffer.specs.Choice.{IsFittingChoice, ShowsSwitch, KeepsSwitch}
use Rattle.dt_buffer.specs.laws.Choices.{choice_more, get_or-last, switch_kept, switch_dropped}
use Rattle.dt_speculation.specs.IsAt.{PartIsAt}
use Rattle.dt_speculation.specs.declared.part.SpecPart.{SpecPart}

-- nothing came
pub shows_none : (size : ℕ) → ShowsSwitch size [] [] 0
shows_none size = record {
  chosen = [];
  choice = record { whole = refl; exactly = λ i h. absurd (omega arith) };
  kept = refl;
  dropped = refl;
}

pub part_none : (size : ℕ) (part : SpecPart) → part.size ≡ size → part.kept.items ≡ [] → PartIsAt size [] part
part_none size part same empty = record {
  same_size = same;
  drops = 0;
  shows = subst (λ bytes. ShowsSwitch size [] bytes 0) (sym empty) (shows_none size);
}

module _ (size : ℕ) (records : List (List ℕ)) (bytes : List ℕ) (old new : SpecPart) (s : PartIsAt size records old)
    (same : new.size ≡ old.size) where
  pub part_kept : new.kept.items ≡ old.kept.items ++ bytes → length old.kept.items + length bytes ≤ old.size
      → PartIsAt size (records ++ bytes ∷ []) new
  part_kept kept fits =
      let P : List ℕ → Type 0 = λ xs. ShowsSwitch size (records ++ bytes ∷ []) xs s.drops in
      record {
        same_size = same ∙ s.same_size;
        drops = s.drops;
        shows = subst P (sym kept)
            (switch_kept size records old.kept.items s.drops bytes s.shows (omega (arith, s.same_size)));
      }

  pub part_dropped : new.kept.items ≡ old.kept.items → old.size < length old.kept.items + length bytes
      → PartIsAt size (records ++ bytes ∷ []) new
  part_dropped kept over =
      let P : List ℕ → Type 0 = λ xs. ShowsSwitch size (records ++ bytes ∷ []) xs (s.drops + 1) in
      record {
        same_size = same ∙ s.same_size;
        drops = s.drops + 1;
        shows = subst P (sym kept)
            (switch_dropped size records old.kept.items s.drops bytes s.shows (omega (arith, s.same_size)));
      }

-- A record is kept exactly where it fits, since records have one choice.
module _ (one : (size : ℕ) (attempts : List (List ℕ)) (a b : List Bool) → IsFittingChoice size attempts a
    → IsFittingChoice size attempts b → a ≡ b) (size : ℕ) (records : List (List ℕ)) (bytes part : List ℕ) (drops : ℕ)
    (s : ShowsSwitch size records part drops) (b : Bool) (fits : IsTrue b ↔ (length part + length bytes ≤ size)) where
  more : IsFittingChoice size (records ++ bytes ∷ []) (s.chosen ++ b ∷ [])
  more =
      let P : ℕ → Type 0 = λ n. IsTrue b ↔ (n + length bytes ≤ size) in
      choice_more size records s.chosen bytes b s.choice (subst P (ap length s.kept) fits)

  last_bit : get_or (s.chosen ++ b ∷ []) (length records) false ≡ b
  last_bit = get_or-last s.chosen b false (length records) (sym s.choice.whole)

  pub part_keeps : IsTrue b ↔ KeepsSwitch size records bytes
  part_keeps =
      let P : Bool → Type 0 = λ x. IsTrue x in
      let Q : List Bool → Type 0 = λ c. IsTrue (get_or c (length records) false) in (
        (λ t. record { chosen = s.chosen ++ b ∷ []; choice = more; last = subst P (sym last_bit) t }),
        (λ k. subst P last_bit (subst Q
            (one size (records ++ bytes ∷ []) k.chosen (s.chosen ++ b ∷ []) k.choice more) k.last)),
      )
