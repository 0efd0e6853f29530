-- Scripts: how long they are, and the firings that their rows stand for.
use Rattle.std.proofs.Common.{◌≡◌, ◌∙◌, ◌+◌, ◌<◌, ◌≤◌, ℕ, zero, suc, [], ◌∷◌, List, Option, Some, None, IfSome, take}
use Rattle.std.proofs.Common.{slice_get, length, refl, sym, ap, subst, arith, add-zero}
use Rattle.std.specs.Prelude.{option_and_then}
use Rattle.std.proofs.lemmas.List.{length-take-le}
use Rattle.std.proofs.lemmas.Option.{slice_get_within}
use Rattle.dt_cred.specs.declared.firing.Firing.{Firing as FiringType}
use Rattle.dt_machine.specs.Reading.{AllRight, AllRightIn}
use Rattle.dt_machine.specs.Registry.{Registry, Belongs, IsInScript, firing_at}
use Rattle.dt_machine.specs.Rows.{FiringRow, HasRoom, firing, script, scripts}
use Rattle.dt_machine.specs.Limits.{script_max}

pub length-front : {A : Type 0} (rows : List A) (i : ℕ) (row : A) → slice_get rows i ≡ Some row
    → length (take i rows) ≡ i
length-front rows i row there =
    let inside = slice_get_within rows i row there in
    length-take-le i rows (omega arith)

pub within : {A : Type 0} (xs : List A) (k : ℕ) → k < length xs → (x : A) × (slice_get xs k ≡ Some x)
within [] k h = absurd (omega arith)
within (x ∷ xs) zero h = (x, refl)
within (x ∷ xs) (suc k) h = within xs k (omega arith)

-- rows with room for each are few
pub few_rows : {A : Type 0} (rows : List A) (n : ℕ) → AllRight (λ before _. length before < n) rows → length rows ≤ n
few_rows [] n right = omega arith
few_rows {A} (x ∷ xs) n right =
    let last = within (x ∷ xs) (length xs) (omega arith) in
    let less = right (length xs) last.0 last.1 in
    let front = length-front (x ∷ xs) (length xs) last.0 last.1 in
    omega arith

-- the firings of a script, and the scripts
pub same_some : {A : Type 0} (x y : A) → Some x ≡ Some y → x ≡ y
same_some x y e = cc

pub record FiringAt (cpu place : ℕ) (rows : List FiringRow) (k : ℕ) (found : FiringType) : Type 0 where
  pub row : FiringRow
  pub there : slice_get rows k ≡ Some row
  pub is : found ≡ firing cpu (place + k) row

pub script_at : (cpu place : ℕ) (rows : List FiringRow) (k : ℕ) (found : FiringType)
    → slice_get (script cpu place rows) k ≡ Some found → FiringAt cpu place rows k found
script_at cpu place [] k found there = absurd (cc)
script_at cpu place (row ∷ rows) zero found there =
    record {
      row = row;
      there = refl;
      is = sym (same_some _ _ there)
          ∙ ap (λ p. firing cpu p row) (sym (add-zero place));
    }
script_at cpu place (row ∷ rows) (suc k) found there =
    let more = script_at cpu (place + 1) rows k found there in
    let at : (place + 1) + k ≡ place + suc k = omega arith in
    record { row = more.row; there = more.there; is = more.is ∙ ap (λ p. firing cpu p more.row) at }

pub record ScriptAt (cpu : ℕ) (all : List (List FiringRow)) (k : ℕ) (found : List FiringType) : Type 0 where
  pub rows : List FiringRow
  pub there : slice_get all k ≡ Some rows
  pub is : found ≡ script (cpu + k) 0 rows

pub scripts_at : (cpu : ℕ) (all : List (List FiringRow)) (k : ℕ) (found : List FiringType)
    → slice_get (scripts cpu all) k ≡ Some found → ScriptAt cpu all k found
scripts_at cpu [] k found there = absurd (cc)
scripts_at cpu (rows ∷ all) zero found there =
    record {
      rows = rows;
      there = refl;
      is = sym (same_some _ _ there)
          ∙ ap (λ c. script c 0 rows) (sym (add-zero cpu));
    }
scripts_at cpu (rows ∷ all) (suc k) found there =
    let more = scripts_at (cpu + 1) all k found there in
    let at : (cpu + 1) + k ≡ cpu + suc k = omega arith in
    record { rows = more.rows; there = more.there; is = more.is ∙ ap (λ c. script c 0 more.rows) at }

pub length-script : (cpu place : ℕ) (rows : List FiringRow) → length (script cpu place rows) ≡ length rows
length-script cpu place [] = refl
length-script cpu place (row ∷ rows) = ap suc (length-script cpu (place + 1) rows)

pub length-scripts : (cpu : ℕ) (all : List (List FiringRow)) → length (scripts cpu all) ≡ length all
length-scripts cpu [] = refl
length-scripts cpu (rows ∷ all) = ap suc (length-scripts (cpu + 1) all)

pub length-script_at : (all : List (List FiringRow)) (k : ℕ) → AllRightIn HasRoom all
    → IfSome (slice_get (scripts 0 all) k) (λ found. length found ≤ script_max)
length-script_at all k room = step (slice_get (scripts 0 all) k) refl
  where
    step : (o : Option (List FiringType)) → slice_get (scripts 0 all) k ≡ o → IfSome o (λ found. length found ≤ script_max)
    step None there = tt
    step (Some found) there =
        let at = scripts_at 0 all k found there in
        let few = few_rows at.rows script_max (room k at.rows at.there) in
        let counted : length found ≡ length at.rows = ap length at.is ∙ length-script (0 + k) 0 at.rows in
        omega arith

pub placed_at : (registry : Registry) (all : List (List FiringRow)) (cpu place : ℕ)
    → AllRightIn (λ _ found. Belongs registry found) (scripts 0 all)
    → IfSome (firing_at (scripts 0 all) cpu place) (IsInScript registry cpu place)
placed_at registry all cpu place belong = outer (slice_get (scripts 0 all) cpu) refl
  where
    inner : (found : List FiringType) → slice_get (scripts 0 all) cpu ≡ Some found → (o : Option FiringType)
        → slice_get found place ≡ o → IfSome o (IsInScript registry cpu place)
    inner found there None at_place = tt
    inner found there (Some fired) at_place =
        let at = scripts_at 0 all cpu found there in
        let G : List FiringType → Type 0 = λ s. slice_get s place ≡ Some fired in
        let f = script_at (0 + cpu) 0 at.rows place fired (subst G at.is at_place) in
        record {
          processor = ap (λ (x : FiringType). x.cpu) f.is ∙ omega arith;
          row = ap (λ (x : FiringType). x.place) f.is ∙ omega arith;
          belongs = belong cpu found there place fired at_place;
        }

    outer : (o : Option (List FiringType)) → slice_get (scripts 0 all) cpu ≡ o
        → IfSome (option_and_then (λ script. slice_get script place) o) (IsInScript registry cpu place)
    outer None there = tt
    outer (Some found) there = inner found there (slice_get found place) refl
