-- One more attempted record under switch, as it is kept.
use Rattle.std.proofs.Common.{◌≡◌, ℕ, ◌+◌, ◌<◌, ◌≤◌, List, [], ◌∷◌, ◌++◌, length, refl, sym, ◌∙◌, subst, arith}
use Rattle.dt_buffer.specs.Choice.{ShowsSwitch}
use Rattle.dt_buffer.specs.Stores.{SwitchIsAt}
use Rattle.dt_buffer.specs.declared.switch.SwitchStore.{SwitchStore}
use Rattle.dt_buffer.specs.laws.Choices.{switch_kept, switch_dropped}

-- nothing came
pub switch_none : (size : ℕ) (store : SwitchStore) → store.size ≡ size → store.kept.items ≡ [] → store.drops ≡ 0
    → SwitchIsAt size [] store
switch_none size store same empty none = record {
  same_size = same;
  shows = record {
    chosen = [];
    choice = record { whole = refl; exactly = λ i h. absurd (omega arith) };
    kept = empty;
    dropped = none;
  };
}

module _ (size : ℕ) (attempts : List (List ℕ)) (attempt : List ℕ) (old new : SwitchStore)
    (s : SwitchIsAt size attempts old) (same : new.size ≡ old.size) where
  pub store_kept : new.kept.items ≡ old.kept.items ++ attempt → new.drops ≡ old.drops
      → length old.kept.items + length attempt ≤ old.size → SwitchIsAt size (attempts ++ attempt ∷ []) new
  store_kept kept counted fits =
      let P : List ℕ → Type 0 = λ bytes. ShowsSwitch size (attempts ++ attempt ∷ []) bytes new.drops in
      let Q : ℕ → Type 0 = λ n. ShowsSwitch size (attempts ++ attempt ∷ []) (old.kept.items ++ attempt) n in
      record {
        same_size = same ∙ s.same_size;
        shows = subst P (sym kept) (subst Q (sym counted)
            (switch_kept size attempts old.kept.items old.drops attempt s.shows (omega (arith, s.same_size))));
      }

  pub store_dropped : new.kept.items ≡ old.kept.items → new.drops ≡ old.drops + 1
      → old.size < length old.kept.items + length attempt → SwitchIsAt size (attempts ++ attempt ∷ []) new
  store_dropped kept counted over =
      let P : List ℕ → Type 0 = λ bytes. ShowsSwitch size (attempts ++ attempt ∷ []) bytes new.drops in
      let Q : ℕ → Type 0 = λ n. ShowsSwitch size (attempts ++ attempt ∷ []) old.kept.items n in
      record {
        same_size = same ∙ s.same_size;
        shows = subst P (sym kept) (subst Q (sym counted)
            (switch_dropped size attempts old.kept.items old.drops attempt s.shows (omega (arith, s.same_size))));
      }
