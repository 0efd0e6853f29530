-- What one thing that happened gives to the stores of all processors.
use Rattle.std.proofs.Common.{◌≡◌, ◌≢◌, ℕ, ◌<◌, ◌≤◌, ◌==◌, Bool, true, false, cond, List, [], length, get_or, map}
use Rattle.std.proofs.Common.{IfSome, refl, sym, subst, ⊎_elim, arith}
use Rattle.std.specs.List.{slice_get, slice_set}
use Rattle.std.proofs.lemmas.Bool.{cases_eq, eq-eqb, ne_eqb}
use Rattle.dt_aggstore.specs.History as store
use Rattle.dt_aggstore.specs.IsAt.{IsAt}
use Rattle.dt_aggstore.specs.declared.store.AggStore.{AggStore}
use Rattle.dt_alone.specs.Happened.{given_as, gives_to}
use Rattle.dt_alone.specs.declared.happened.Happened.TheVariants as happened
use Rattle.dt_alone.specs.declared.happened.Left as left
use Rattle.dt_life.specs.Uses.{AreGiven, given_then}
use Rattle.dt_life.specs.laws.Giving.{given_none}
use Rattle.dt_life.specs.laws.Lists.{found_at, nothing_past, replaced}
use Rattle.dt_life.specs.laws.Options.{if_some_map}

module _ (pasts : ℕ → store.Past) (stores : List AggStore) (there : ℕ) (in_end : Bool) (what : left.Left)
    (at : AreGiven pasts stores) where
  abbrev Wanted : ℕ → AggStore → Type 0
  Wanted j st = IsAt (given_then (pasts j) (gives_to j (happened.Left there in_end what))) st

  -- on another processor nothing is given
  elsewhere : (j : ℕ) → j ≢ there → IfSome (slice_get stores j) (Wanted j)
  elsewhere j ne =
      let other : (there == j) ≡ false = ne_eqb there j (λ e. ne (sym e)) in
      if_some_map _ _ (slice_get stores j)
      (λ st h. subst (λ b. IsAt (given_then (pasts j) (cond b (map given_as what.given.items) [])) st) (sym other)
      (given_none (pasts j) st h))
      (at j)

  -- on the processor of the clause its contributions are
  pub left_there : (p q : AggStore) → there < length stores → p ≡ get_or stores there p
      → (IsAt (pasts there) p → IsAt (given_then (pasts there) (map given_as what.given.items)) q)
      → AreGiven (λ j. given_then (pasts j) (gives_to j (happened.Left there in_end what))) (slice_set stores there q)
  left_there p q inside found gave =
      let same : (there == there) ≡ true = eq-eqb there there refl in
      replaced Wanted stores there q
      (subst (λ b. IsAt (given_then (pasts there) (cond b (map given_as what.given.items) [])) q) (sym same)
      (gave (found_at (IsAt (pasts there)) stores there p inside found (at there))))
      elsewhere

  -- where there is no such processor
  pub left_nowhere : length stores ≤ there
      → AreGiven (λ j. given_then (pasts j) (gives_to j (happened.Left there in_end what))) stores
  left_nowhere past = λ j. ⊎_elim
      (λ e. nothing_past (Wanted j) stores j (omega arith))
      (elsewhere j)
      (cases_eq j there)
