-- Scripts: how long they are, and the firings that their rows stand for.
use Rattle.std.proofs.Common.{◌≡◌, ◌+◌, ◌<◌, ◌≤◌, ℕ, [], ◌∷◌, ◌++◌, List, Some, take, slice_get, length}
use Rattle.std.proofs.Common.{sym, ap, ◌∙◌, arith, add-zero}
use Rattle.std.proofs.lemmas.Option.{slice_get_within}
use Rattle.dt_cred.specs.declared.firing.Firing.{Firing}
use Rattle.dt_machine.specs.Reading.{AllRight, IsFirstWrong}
use Rattle.dt_machine.specs.Rows.{FiringRow, firing, script, scripts}
use Rattle.dt_machine.specs.laws.Scripts.{within, length-front}
use Rattle.dt_machine.proofs.Searching.{take_next}

-- the first row too many
pub too_long : {A : Type 0} (rows : List A) (n : ℕ) → n < length rows
    → IsFirstWrong (λ before _. length before < n) rows n
too_long rows n h =
    let found = within rows n h in
    record {
      row = found.0;
      there = found.1;
      wrong = λ less. let front = length-front rows n found.0 found.1 in omega arith;
      right_before = λ k earlier below there. let front = length-front rows k earlier there in omega arith;
    }

pub short_enough : {A : Type 0} (rows : List A) (n : ℕ) → length rows ≤ n
    → AllRight (λ before _. length before < n) rows
short_enough rows n h k row there =
    let inside = slice_get_within rows k row there in
    let front = length-front rows k row there in
    omega arith

script-push : (cpu place : ℕ) (rows : List FiringRow) (row : FiringRow)
    → script cpu place (rows ++ row ∷ []) ≡ script cpu place rows ++ firing cpu (place + length rows) row ∷ []
script-push cpu place [] row = ap (λ p. firing cpu p row ∷ []) (sym (add-zero place))
script-push cpu place (first ∷ rows) row =
    let e : (place + 1) + length rows ≡ place + length (first ∷ rows) = omega arith in
    ap (λ more. firing cpu place first ∷ more)
    (script-push cpu (place + 1) rows row ∙ ap (λ p. script cpu (place + 1) rows ++ firing cpu p row ∷ []) e)

pub script_next : (cpu : ℕ) (rows : List FiringRow) (i : ℕ) (row : FiringRow) (found : List Firing)
    → slice_get rows i ≡ Some row → found ≡ script cpu 0 (take i rows)
    → found ++ firing cpu i row ∷ [] ≡ script cpu 0 (take (i + 1) rows)
script_next cpu rows i row found there is =
    let at : i ≡ 0 + length (take i rows) = let front = length-front rows i row there in omega arith in
    ap (λ fs. fs ++ firing cpu i row ∷ []) is ∙ ap (λ p. script cpu 0 (take i rows) ++ firing cpu p row ∷ []) at
    ∙ sym (script-push cpu 0 (take i rows) row) ∙ ap (script cpu 0) (sym (take_next rows i row there))

scripts-push : (cpu : ℕ) (all : List (List FiringRow)) (rows : List FiringRow)
    → scripts cpu (all ++ rows ∷ []) ≡ scripts cpu all ++ script (cpu + length all) 0 rows ∷ []
scripts-push cpu [] rows = ap (λ c. script c 0 rows ∷ []) (sym (add-zero cpu))
scripts-push cpu (first ∷ all) rows =
    let e : (cpu + 1) + length all ≡ cpu + length (first ∷ all) = omega arith in
    ap (λ more. script cpu 0 first ∷ more) (scripts-push (cpu + 1) all rows
    ∙ ap (λ c. scripts (cpu + 1) all ++ script c 0 rows ∷ []) e)

pub scripts_next : (all : List (List FiringRow)) (i : ℕ) (rows : List FiringRow) (found : List (List Firing))
    → slice_get all i ≡ Some rows → found ≡ scripts 0 (take i all)
    → found ++ script i 0 rows ∷ [] ≡ scripts 0 (take (i + 1) all)
scripts_next all i rows found there is =
    let at : i ≡ 0 + length (take i all) = let front = length-front all i rows there in omega arith in
    ap (λ fs. fs ++ script i 0 rows ∷ []) is ∙ ap (λ c. scripts 0 (take i all) ++ script c 0 rows ∷ []) at
    ∙ sym (scripts-push 0 (take i all) rows) ∙ ap (scripts 0) (sym (take_next all i rows there))
