-- Processes that a number finds, and tests of mapped lists.
use Rattle.std.proofs.Common.{◌≡◌, ℕ, not, length, filter, ◌<◌, ◌≤◌, ◌||◌, ◌&&◌, eqb, Bool, true, false, List, [], ◌∷◌}
use Rattle.std.proofs.Common.{Option, Some, None, cond, map, refl, sym, ap, ◌∙◌, subst, ◌⊎◌, inl, inr, arith}
use Rattle.std.specs.List.{list_any, find}
use Rattle.std.specs.Option.{IfSome}
use Rattle.std.proofs.lemmas.Bool.{eqb-true, ne_eqb}
use Rattle.dt_cred.specs.declared.account.Process.{Process}
use Rattle.dt_cred.specs.declared.class.Class.{Class}
use Rattle.dt_cred.specs.declared.class.Class.TheVariants.{Pid}
use Rattle.dt_ecb.specs.Matching.{traced_process}
use Rattle.dt_machine.specs.Registry.{Registry, process_of}
use Rattle.dt_machine.specs.declared.limits.TheConstants.{PID_MAX}

pub list_any-map : {X Y : Type 0} (f : X → Y) (p : Y → Bool) (xs : List X)
    → list_any p (map f xs) ≡ list_any (λ x. p (f x)) xs
list_any-map f p [] = refl
list_any-map f p (x ∷ xs) = ap (λ b. p (f x) || b) (list_any-map f p xs)

found_here : {X : Type 0} (test : X → Bool) (x : X) (later : Option X) (b : Bool) → test x ≡ b
    → ((y : X) → later ≡ Some y → test y ≡ true) → (y : X) → cond b (Some x) later ≡ Some y → test y ≡ true
found_here test x later true e rest y h = let same : x ≡ y = cc in subst (λ z. test z ≡ true) same e
found_here test x later false e rest y h = rest y h

find_passes : {X : Type 0} (test : X → Bool) (xs : List X) (y : X) → find test xs ≡ Some y → test y ≡ true
find_passes test [] y h = cc
find_passes test (x ∷ xs) y h = found_here test x (find test xs) (test x) refl (find_passes test xs) y h

pub both : (may described r : Bool) → may ≡ true → r ≡ described → r ≡ (may && described)
both may described r holds e = e ∙ sym (ap (λ b. b && described) holds)

-- The numbers of a registry's processes have a limit.
abbrev SmallPids : Registry → Type 0
SmallPids registry = (pid : ℕ) → IfSome (process_of registry pid) (λ process. process.pid ≤ PID_MAX)

nobody : (registry : Registry) (n : ℕ) (o : Option Process) → process_of registry n ≡ o
    → IfSome o (λ process. process.pid ≤ PID_MAX) → PID_MAX < n → o ≡ None
nobody registry n None e small far = refl
nobody registry n (Some process) e small far =
    let is = eqb-true process.pid n (find_passes (λ p. eqb p.pid n) registry.processes process e) in
    absurd (omega (arith, small, far, is))

no_process : (registry : Registry) → SmallPids registry → (n : ℕ) → PID_MAX < n → process_of registry n ≡ None
no_process registry small n far = nobody registry n (process_of registry n) refl (small n) far

-- a number past all process numbers finds none, and neither does the stand-in for it
pub process_found : (registry : Registry) → SmallPids registry → (class : Class) (pid n : ℕ) (o : Option Process)
    → class ≡ Pid pid → ((n ≡ pid) × (pid ≤ PID_MAX)) ⊎ ((PID_MAX < n) × (PID_MAX < pid))
    → o ≡ process_of registry n → o ≡ traced_process registry class
process_found registry small class pid n o is (inl near) e =
    e ∙ ap (process_of registry) near.0 ∙ sym (ap (traced_process registry) is)
process_found registry small class pid n o is (inr far) e =
    e
    ∙ no_process registry small n far.0
    ∙ sym (no_process registry small pid far.1)
    ∙ sym (ap (traced_process registry) is)

-- a filter keeps nothing exactly where no element passes
kept_none : {X : Type 0} (test : X → Bool) (x : X) (xs : List X) (b : Bool) → test x ≡ b
    → not (list_any test xs) ≡ eqb (length (filter test xs)) 0
    → not (b || list_any test xs) ≡ eqb (length (cond b (x ∷ filter test xs) (filter test xs))) 0
kept_none test x xs true is rest = sym (ne_eqb (length (x ∷ filter test xs)) 0 (λ e. absurd (omega (arith, e))))
kept_none test x xs false is rest = rest

pub none_kept : {X : Type 0} (test : X → Bool) (xs : List X)
    → not (list_any test xs) ≡ eqb (length (filter test xs)) 0
none_kept test [] = refl
none_kept test (x ∷ xs) = kept_none test x xs (test x) refl (none_kept test xs)
