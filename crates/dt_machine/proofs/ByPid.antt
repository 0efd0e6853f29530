-- The processes read so far, and the map that finds them.
use Rattle.std.proofs.Common.{◌≡◌, ◌≢◌, ◌^◌, ◌≤◌, zero, suc, length, length-append, slice_get, subst, IfSome}
use Rattle.std.proofs.Common.{◌==◌, ◌||◌, ℕ, ◌<◌, [], ◌∷◌, ◌++◌, List, Bool, true, false, cond, Option, Some, None}
use Rattle.std.proofs.Common.{IsSome, IsSomeAnd, ◌⊎◌, inl, inr, All, map, refl, sym, ap, ◌∙◌, arith}
use Rattle.std.specs.Prelude.{is_some, find, option_and_then}
use Rattle.dt_machine.specs.ByPid.{place_in}
use Rattle.dt_machine.specs.Sections.{Indexes}
use Rattle.dt_machine.specs.declared.by_pid.ByPid.{ByPid}
use Rattle.dt_machine.proofs.Registries.{there_some}
use Rattle.std.proofs.lemmas.Bool.Decides.{Decides-eqb, nat_tests}
use Rattle.std.proofs.lemmas.Bool.{false≢true}
use Rattle.std.proofs.lemmas.List.Elements.{All-head, All-tail}
use Rattle.std.proofs.lemmas.List.Folds.{find-append}
use Rattle.std.specs.List.{list_any}
use Rattle.std.specs.Option.{option_or}
use Rattle.dt_cred.specs.declared.account.Process.{Process}
use Rattle.dt_machine.specs.Rows.{ProcessRow, process, number_in, IsGivenBelow}
use Rattle.dt_machine.specs.laws.Soundness.{at_pid}
use Rattle.dt_machine.proofs.Lists.{any_false, any_true, list_any-map}

some_step : {A : Type 0} (b : Bool) (y : A) (o : Option A) (any : Bool) → is_some o ≡ any
    → is_some (cond b (Some y) o) ≡ (b || any)
some_step true y o any h = refl
some_step false y o any h = h

pub is_some-find : {A : Type 0} (test : A → Bool) (xs : List A) → is_some (find test xs) ≡ list_any test xs
is_some-find test [] = refl
is_some-find test (x ∷ xs) = some_step (test x) x (find test xs) (list_any test xs) (is_some-find test xs)

pub none_of : {A : Type 0} (o : Option A) → is_some o ≡ false → o ≡ None
none_of None h = refl
none_of (Some x) h = cc

abbrev row_at_pid : ℕ → ProcessRow → Bool
row_at_pid pid row = number_in row.pid == pid

found_in_rows : (rows : List ProcessRow) (pid : ℕ)
    → is_some (find (at_pid pid) (map process rows)) ≡ list_any (row_at_pid pid) rows
found_in_rows rows pid = is_some-find (at_pid pid) (map process rows) ∙ list_any-map (at_pid pid) process rows

other : (pid : ℕ) (row : ProcessRow) → row_at_pid pid row ≡ false → row.pid ≢ Some pid
other pid row differs e =
    false≢true (sym differs ∙ (Decides-eqb (number_in row.pid) pid).1 (ap number_in e))

-- where no process is found, no row has the number
pub unseen : (rows : List ProcessRow) (pid : ℕ) → is_some (find (at_pid pid) (map process rows)) ≡ false
    → All (λ row. row.pid ≢ Some pid) rows
unseen rows pid h = any_false (row_at_pid pid) (λ row. row.pid ≢ Some pid) (other pid) rows
    (sym (found_in_rows rows pid) ∙ h)

clash : (pid : ℕ) (number : Option ℕ) → (number_in number == pid) ≡ true → IsSome number → number ≢ Some pid → ⊥
clash pid None same known differs = cc
clash pid (Some n) same known differs = differs (ap Some ((Decides-eqb n pid).0 same))

-- where one is found, a row has the number
pub seen : (rows : List ProcessRow) (pid : ℕ) → All (λ row. IsSome row.pid) rows
    → is_some (find (at_pid pid) (map process rows)) ≡ true → All (λ row. row.pid ≢ Some pid) rows → ⊥
seen rows pid known h new =
    any_true (row_at_pid pid) (λ row. IsSome row.pid × (row.pid ≢ Some pid))
    (λ row same facts. clash pid row.pid same facts.0 facts.1) rows (sym (found_in_rows rows pid) ∙ h)
    (λ k d inside. (known k d inside, new k d inside))

pub or_none : {A : Type 0} (o : Option A) → option_or o None ≡ o
or_none None = refl
or_none (Some x) = refl

-- a place is in the map where a process is in the list
pub indexed : (by_pid : ByPid) (processes : List Process)
    → Indexes by_pid processes → (pid : ℕ) → is_some (place_in by_pid pid) ≡ is_some (find (at_pid pid) processes)
indexed by_pid processes indexes pid = there (place_in by_pid pid) (indexes.within pid)
    ∙ ap is_some (indexes.finds pid)
  where
    there : (o : Option ℕ) → IfSome o (λ place. place < length processes)
        → is_some o ≡ is_some (option_and_then (slice_get processes) o)
    there None low = refl
    there (Some place) low = sym (there_some processes place low)

last_place : (processes : List Process) (p : Process) → slice_get (processes ++ p ∷ []) (length processes) ≡ Some p
last_place [] p = refl
last_place (x ∷ xs) p = last_place xs p

early_place : (processes : List Process) (p : Process) (place : ℕ) → place < length processes
    → slice_get (processes ++ p ∷ []) place ≡ slice_get processes place
early_place [] p place low = absurd (omega arith)
early_place (x ∷ xs) p zero low = refl
early_place (x ∷ xs) p (suc place) low = early_place xs p place (omega arith)

early_places : (processes : List Process) (p : Process) (o : Option ℕ)
    → IfSome o (λ place. place < length processes)
    → option_and_then (slice_get (processes ++ p ∷ [])) o ≡ option_and_then (slice_get processes) o
early_places processes p None low = refl
early_places processes p (Some place) low = early_place processes p place low

more_within : (processes : List Process) (p : Process) (o : Option ℕ)
    → IfSome o (λ place. place < length processes) → IfSome o (λ place. place < length (processes ++ p ∷ []))
more_within processes p None low = tt
more_within processes p (Some place) low = let longer = length-append processes (p ∷ []) in omega arith

-- a process more, of a number that was not there
pub indexes_more : (new_at old_at : ByPid) (processes : List Process)
    (p : Process) (last : ℕ) → last ≡ length processes → Indexes old_at processes
    → ((q : ℕ) → place_in new_at q ≡ cond (p.pid == q) (Some last) (place_in old_at q))
    → find (at_pid p.pid) processes ≡ None → Indexes new_at (processes ++ p ∷ [])
indexes_more new_at old_at processes p last at_end old new fresh = record {
  finds = λ q. ap (option_and_then (slice_get (processes ++ p ∷ []))) (new q)
      ∙ found q (p.pid == q) (Decides-eqb p.pid q) ∙ sym (find-append (at_pid q) processes (p ∷ []));
  within = λ q. subst (λ (o : Option ℕ). IfSome o (λ place. place < length (processes ++ p ∷ []))) (sym (new q))
      (low q (p.pid == q));
}
  where
    found : (q : ℕ) (b : Bool) → (b ≡ true → p.pid ≡ q) × (p.pid ≡ q → b ≡ true)
        → option_and_then (slice_get (processes ++ p ∷ [])) (cond b (Some last) (place_in old_at q))
        ≡ option_or (find (at_pid q) processes) (cond b (Some p) None)
    found q true d = ap (slice_get (processes ++ p ∷ [])) at_end ∙ last_place processes p
        ∙ ap (λ o. option_or o (Some p)) (sym (ap (λ n. find (at_pid n) processes) (sym (d.0 refl)) ∙ fresh))
    found q false d = early_places processes p (place_in old_at q) (old.within q) ∙ old.finds q
        ∙ sym (or_none (find (at_pid q) processes))

    low : (q : ℕ) (b : Bool) → IfSome (cond b (Some last) (place_in old_at q))
        (λ place. place < length (processes ++ p ∷ []))
    low q true = let longer = length-append processes (p ∷ []) in omega arith
    low q false = more_within processes p (place_in old_at q) (old.within q)

or_none_false : (a b : Bool) → a ≡ false → b ≡ false → (a || b) ≡ false
or_none_false true b h g = cc
or_none_false false b h g = g

pub none_any : {A : Type 0} (test : A → Bool) (P : A → Type 0) → ((x : A) → P x → test x ≡ false) → (xs : List A)
    → All P xs → list_any test xs ≡ false
none_any test P fails [] each = refl
none_any test P fails (x ∷ xs) each =
    or_none_false (test x) (list_any test xs) (fails x (All-head P x xs each))
    (none_any test P fails xs (All-tail P x xs each))

apart : (a b : ℕ) → a < b → (a == b) ≡ false
apart a b h = grind (arith, nat_tests)

-- no process has a number past 32 bits
pub too_large : (processes : List Process) (pid : ℕ) → All (λ p. p.pid < 2 ^ 32) processes → 2 ^ 32 ≤ pid
    → is_some (find (at_pid pid) processes) ≡ false
too_large processes pid small large =
    is_some-find (at_pid pid) processes ∙ none_any (at_pid pid) (λ p. p.pid < 2 ^ 32)
    (λ p less. apart p.pid pid (omega arith)) processes small

below_or_not : (n limit : ℕ) → (n < limit) ⊎ (limit ≤ n)
below_or_not n limit = grind arith

pub unknown : (processes : List Process) (number : Option ℕ) → All (λ p. p.pid < 2 ^ 32) processes
    → (IsGivenBelow (2 ^ 32) number → ⊥) → IsSomeAnd number (λ pid. IsSome (find (at_pid pid) processes)) → ⊥
unknown processes None small large known = known
unknown processes (Some n) small large known = elim (below_or_not n (2 ^ 32)) [
  | inl less ↦ large less
  | inr more ↦ false≢true (sym (too_large processes n small more) ∙ known)
]
