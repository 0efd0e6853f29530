-- What the words of a registry say.
use Rattle.std.proofs.Common.{◌≡◌, ℕ, zero, suc, ◌-◌, Bor, List, length, Option, Some, None, IsSome, [], ◌∷◌, ◌<◌, ◌≤◌}
use Rattle.std.proofs.Common.{slice_get, refl, sym, ap, subst, arith}
use Rattle.dt_cred.specs.declared.probe.Probe.{Probe}
use Rattle.std.proofs.lemmas.Option.{slice_get_past, slice_get_read}
use Rattle.std.specs.Option.{option_copied}
use Rattle.std.specs.Slice.{IsItemAt}
use Rattle.dt_machine.specs.Registry.{Registry, probe_of}

pub probe_of-before : (registry : Registry) (id : ℕ) → (id ≡ 0 → ⊥)
    → probe_of registry id ≡ slice_get registry.probes (id - 1)
probe_of-before registry zero h = absurd (h refl)
probe_of-before registry (suc before) h =
    let e : before ≡ suc before - 1 = omega arith in
    ap (slice_get registry.probes) e

-- what `get` at an index answers
pub option_copied-from_get : {X : Type 0} (xs : List X) (i : ℕ) (r : Option (Bor X)) → IsItemAt xs i r
    → option_copied r ≡ slice_get xs i
option_copied-from_get xs i None h = sym (slice_get_past xs i h.3)
option_copied-from_get xs i (Some x) h = sym (slice_get_read xs (length xs) i x.now refl h.3.0 h.1)

some_there : {X : Type 0} (xs : List X) (k : ℕ) → IsSome (slice_get xs k) → k < length xs
some_there [] k h = cc
some_there (x ∷ xs) zero h = omega arith
some_there (x ∷ xs) (suc k) h = let more = some_there xs k h in omega arith

pub there_some : {X : Type 0} (xs : List X) (k : ℕ) → k < length xs → IsSome (slice_get xs k)
there_some [] k h = absurd (omega arith)
there_some (x ∷ xs) zero h = refl
there_some (x ∷ xs) (suc k) h = there_some xs k (omega arith)

-- the probes are numbered from 1 on
pub probe_there : (registry : Registry) (id : ℕ) → 3 ≤ id → id ≤ length registry.probes → IsSome (probe_of registry id)
probe_there registry id low high =
    let there = there_some registry.probes (id - 1) (omega arith) in
    let P : Option Probe → Type 0 = IsSome in
    subst P (sym (probe_of-before registry id (λ e. omega arith))) there

pub probe_within : (registry : Registry) (id : ℕ) → 3 ≤ id → IsSome (probe_of registry id)
    → id ≤ length registry.probes
probe_within registry id low some =
    let P : Option Probe → Type 0 = IsSome in
    let inside = some_there registry.probes (id - 1) (subst P (probe_of-before registry id (λ e. omega arith)) some) in
    omega arith
