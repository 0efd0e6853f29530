-- What comes to the stores of all processors.
use Rattle.std.proofs.Common.{◌≡◌, ◌≢◌, ℕ, zero, suc, ◌+◌, ◌<◌, ◌≤◌, ◌==◌, Bool, true, false, cond, List, [], ◌∷◌, ◌++◌}
use Rattle.std.proofs.Common.{length, get_or, Some, map, refl, sym, ap, ◌∙◌, subst, ⊎_elim, arith}
use Rattle.std.specs.Bool.{nat_lt}
use Rattle.std.specs.List.{slice_get, slice_set, AllZip, range_with_len}
use Rattle.std.specs.Option.{IfSome, option_map, option_to_list}
use Rattle.std.proofs.lemmas.Bool.{cases_eq, cases_lt, eq-eqb, le-ltb, lt-ltb, ne_eqb}
use Rattle.std.proofs.lemmas.List.{map-append}
use Rattle.dt_aggstore.specs.Chosen.{drops}
use Rattle.dt_aggstore.specs.History as store
use Rattle.dt_aggstore.specs.IsAt.{IsAt}
use Rattle.dt_aggstore.specs.declared.key.Aggregation.{Aggregation}
use Rattle.dt_aggstore.specs.declared.store.AggStore.{AggStore}
use Rattle.dt_life.specs.Aggregations.{aggregation_of, contributions_of}
use Rattle.dt_life.specs.Life.{SetUp, shapes_in}
use Rattle.dt_life.specs.Stores.{given_after, given_on}
use Rattle.dt_life.specs.Takings.{Taking, cpu_of}
use Rattle.dt_life.specs.TracingSteps.{TracingStep, takes, reads, truncates}
use Rattle.dt_life.specs.Uses.{AreGiven, given_then}
use Rattle.dt_life.specs.laws.Buffers.{given_more}
use Rattle.dt_life.specs.laws.Giving.{given_none, same_at}
use Rattle.dt_life.specs.laws.Lists.{found_at, replaced}
use Rattle.dt_life.specs.laws.Options.{if_some_map}

-- the past of a store, followed in another way
followed : (past past' : ℕ → store.Past) (stores : List AggStore) → ((cpu : ℕ) → past cpu ≡ past' cpu) → AreGiven past stores
    → AreGiven past' stores
followed past past' stores same h = λ cpu. if_some_map _ _ (slice_get stores cpu) (λ st. same_at _ _ st (same cpu)) (h cpu)

module _ (s : SetUp) (steps : List TracingStep) (stores : List AggStore) (at : AreGiven (given_after s steps) stores) where
  -- a step that gives nothing
  pub gave_none : (step : TracingStep) → ((cpu : ℕ) → given_on (shapes_in s) cpu step ≡ [])
      → AreGiven (given_after s (steps ++ step ∷ [])) stores
  gave_none step none =
      followed (λ cpu. given_then (given_after s steps cpu) []) (given_after s (steps ++ step ∷ [])) stores
      (λ cpu. ap (given_then (given_after s steps cpu)) (sym (none cpu)) ∙ sym (given_more s steps cpu step))
      (λ cpu. if_some_map _ _ (slice_get stores cpu) (given_none (given_after s steps cpu)) (at cpu))

  -- a processor's buffer was read
  pub gave_read : (n : ℕ) → AreGiven (given_after s (steps ++ reads n ∷ [])) stores
  gave_read n = gave_none (reads n) (λ cpu. refl)

  module _ (t : Taking) where
    -- a taking gave nothing
    pub gave_nothing : contributions_of (shapes_in s) t ≡ [] → AreGiven (given_after s (steps ++ takes t ∷ [])) stores
    gave_nothing none = gave_none (takes t) (λ cpu. by_place (cpu_of t == cpu))
      where
        by_place : (b : Bool) → cond b (contributions_of (shapes_in s) t) [] ≡ []
        by_place true = none
        by_place false = refl

    abbrev Wanted : ℕ → AggStore → Type 0
    Wanted cpu st = IsAt (given_after s (steps ++ takes t ∷ []) cpu) st

    placed : (cpu : ℕ) (b : Bool) → (cpu_of t == cpu) ≡ b
        → given_then (given_after s steps cpu) (cond b (contributions_of (shapes_in s) t) [])
        ≡ given_after s (steps ++ takes t ∷ []) cpu
    placed cpu b e =
        ap (λ x. given_then (given_after s steps cpu) (cond x (contributions_of (shapes_in s) t) [])) (sym e)
        ∙ sym (given_more s steps cpu (takes t))

    elsewhere : (cpu : ℕ) → cpu ≢ cpu_of t → IfSome (slice_get stores cpu) (Wanted cpu)
    elsewhere cpu ne =
        if_some_map _ _ (slice_get stores cpu)
        (λ st h. same_at _ _ st (placed cpu false (ne_eqb (cpu_of t) cpu (λ e. ne (sym e))))
        (given_none (given_after s steps cpu) st h)) (at cpu)

    -- a taking gave to the store of its processor
    pub gave_there : (p q : AggStore) → cpu_of t < length stores → p ≡ get_or stores (cpu_of t) p
        → (IsAt (given_after s steps (cpu_of t)) p
        → IsAt (given_then (given_after s steps (cpu_of t)) (contributions_of (shapes_in s) t)) q)
        → AreGiven (given_after s (steps ++ takes t ∷ [])) (slice_set stores (cpu_of t) q)
    gave_there p q inside found gave =
        replaced Wanted stores (cpu_of t) q
        (same_at _ _ q (placed (cpu_of t) true (eq-eqb (cpu_of t) (cpu_of t) refl))
        (gave (found_at (IsAt (given_after s steps (cpu_of t))) stores (cpu_of t) p inside found (at (cpu_of t)))))
        elsewhere

-- an aggregation was truncated
pub trunc_given : (s : SetUp) (steps : List TracingStep) (name : List ℕ) (aggregation : Aggregation) (stores : List AggStore)
    → aggregation_of (shapes_in s) name ≡ Some aggregation
    → AreGiven (λ cpu. store.after (given_after s steps cpu) (store.truncated aggregation)) stores
    → AreGiven (given_after s (steps ++ truncates name ∷ [])) stores
trunc_given s steps name aggregation stores is h =
    followed _ _ stores
    (λ cpu. ap (λ o. given_then (given_after s steps cpu) (option_to_list (option_map store.truncated o))) (sym is)
    ∙ sym (given_more s steps cpu (truncates name)))
    h

-- new stores are those before any step
pub new_given : (s : SetUp) (size : ℕ) (stores : List AggStore) → size ≡ s.options.aggsize
    → AreGiven (λ cpu. store.new_past size) stores → AreGiven (given_after s []) stores
new_given s size stores same h = followed _ _ stores (λ cpu. ap store.new_past same) h

-- the stores, one for each processor
zipped : (pasts : ℕ → store.Past) (stores : List AggStore) (from : ℕ)
    → ((i : ℕ) → IfSome (slice_get stores i) (IsAt (pasts (from + i))))
    → AllZip IsAt (map pasts (range_with_len from (length stores))) stores
zipped pasts [] from h = tt
zipped pasts (st ∷ stores) from h = (
  subst (λ n. IsAt (pasts n) st) (plus_none from) (h 0),
  zipped pasts stores (from + 1) (λ i. if_some_map _ _ (slice_get stores i)
      (λ x. subst (λ n. IsAt (pasts n) x) (plus_one from i)) (h (suc i))),
)
  where
    plus_none : (n : ℕ) → n + 0 ≡ n
    plus_none n = omega arith

    plus_one : (n i : ℕ) → n + suc i ≡ n + 1 + i
    plus_one n i = omega arith

pub are_zipped : (pasts : ℕ → store.Past) (stores : List AggStore) (cpus : ℕ) → length stores ≡ cpus
    → AreGiven pasts stores → AllZip IsAt (map pasts (range_with_len 0 cpus)) stores
are_zipped pasts stores cpus e h =
    subst (λ n. AllZip IsAt (map pasts (range_with_len 0 n)) stores) e
    (zipped pasts stores 0
    (λ i. subst (λ n. IfSome (slice_get stores i) (IsAt (pasts n))) (from_none i) (h i)))
  where
    from_none : (i : ℕ) → i ≡ 0 + i
    from_none i = omega arith

-- the pasts where the aggregation was truncated on the first processors
abbrev pub truncated_to : Aggregation → (ℕ → store.Past) → ℕ → ℕ → store.Past
truncated_to aggregation pasts cpus cpu =
    cond (nat_lt cpu cpus) (store.after (pasts cpu) (store.truncated aggregation)) (pasts cpu)

-- one more
pub truncated_more : (aggregation : Aggregation) (pasts : ℕ → store.Past) (stores : List AggStore) (cpu : ℕ)
    (p q : AggStore) → cpu < length stores → p ≡ get_or stores cpu p
    → (IsAt (pasts cpu) p → IsAt (store.after (pasts cpu) (store.truncated aggregation)) q)
    → AreGiven (truncated_to aggregation pasts cpu) stores
    → AreGiven (truncated_to aggregation pasts (cpu + 1)) (slice_set stores cpu q)
truncated_more aggregation pasts stores cpu p q inside found step h =
    let by : ℕ → Bool → store.Past =
    λ j b. cond b (store.after (pasts j) (store.truncated aggregation)) (pasts j) in
    let here : IsAt (pasts cpu) p =
    subst (λ b. IsAt (by cpu b) p) (le-ltb cpu cpu (omega arith))
    (found_at (IsAt (truncated_to aggregation pasts cpu cpu)) stores cpu p inside found (h cpu)) in
    replaced (λ j st. IsAt (truncated_to aggregation pasts (cpu + 1) j) st) stores cpu q
    (subst (λ b. IsAt (by cpu b) q) (sym (lt-ltb cpu (cpu + 1) (omega arith))) (step here))
    (λ j ne. if_some_map _ _ (slice_get stores j)
    (λ st. subst (λ b. IsAt (by j b) st) (same_side j cpu ne))
    (h j))
  where
    same_side : (j cpu : ℕ) → j ≢ cpu → nat_lt j cpu ≡ nat_lt j (cpu + 1)
    same_side j cpu ne = ⊎_elim
        (λ below. lt-ltb j cpu below ∙ sym (lt-ltb j (cpu + 1) (omega (arith, below))))
        (λ beyond. le-ltb j cpu beyond ∙ sym (le-ltb j (cpu + 1) (above beyond)))
        (cases_lt j cpu)
      where
        above : cpu ≤ j → cpu + 1 ≤ j
        above h = ⊎_elim (λ (e : j ≡ cpu). absurd (ne e)) (λ (n : j ≢ cpu). omega (arith, h, n)) (cases_eq j cpu)

-- the drops of one store more
pub dropped_more : (pasts : ℕ → store.Past) (done : List ℕ) (cpu : ℕ) (dropped : ℕ)
    → done ≡ map (λ cpu. drops (pasts cpu)) (range_with_len 0 cpu) → dropped ≡ drops (pasts cpu)
    → done ++ dropped ∷ [] ≡ map (λ cpu. drops (pasts cpu)) (range_with_len 0 (cpu + 1))
dropped_more pasts done cpu dropped e f =
    ap (λ ns. ns ++ dropped ∷ []) e ∙ ap (λ n. map (λ cpu. drops (pasts cpu)) (range_with_len 0 cpu) ++ n ∷ []) f
    ∙ sym (map-append (λ cpu. drops (pasts cpu)) (range_with_len 0 cpu) (cpu ∷ []))
    ∙ ap (λ n. map (λ cpu. drops (pasts cpu)) (range_with_len 0 cpu ++ n ∷ [])) (from_none cpu)
    ∙ ap (map (λ cpu. drops (pasts cpu))) (sym (range_more 0 cpu))
  where
    from_none : (n : ℕ) → n ≡ 0 + n
    from_none n = omega arith

    range_more : (from n : ℕ) → range_with_len from (n + 1) ≡ range_with_len from n ++ (from + n) ∷ []
    range_more from zero = ap (λ n. n ∷ []) (none_more from)
      where
        none_more : (n : ℕ) → n ≡ n + 0
        none_more n = omega arith
    range_more from (suc n) =
        ap (range_with_len from) (later n)
        ∙ ap (λ ns. from ∷ ns) (range_more (from + 1) n)
        ∙ ap (λ k. from ∷ (range_with_len (from + 1) n ++ k ∷ [])) (place from n)
      where
        later : (n : ℕ) → suc n + 1 ≡ suc (n + 1)
        later n = omega arith

        place : (from n : ℕ) → from + 1 + n ≡ from + suc n
        place from n = omega arith
