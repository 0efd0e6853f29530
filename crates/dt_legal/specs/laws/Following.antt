-- What may follow a legal row: a line within the quota, and a firing that is seen.
use Rattle.std.proofs.Common.{◌≡◌, ◌+◌, ◌==◌, ℕ, Bool, true, false, cond, List, [], ◌∷◌, ◌++◌, Some, map, filter, refl, sym, ap, subst, arith, eq-eqb}
use Rattle.std.proofs.lemmas.List.{reverse-append}
use Rattle.std.specs.List.{AllByRecursion}
use Rattle.dt_cred.specs.declared.account.Account.{Account}
use Rattle.dt_cred.specs.declared.firing.Firing.{Firing}
use Rattle.dt_machine.specs.Registry.{Contents, firing_at}
use Rattle.dt_life.specs.Acceptance.{after_line}
use Rattle.dt_life.specs.Life.{is_over}
use Rattle.dt_life.specs.Life.{fired as fired_item}
use Rattle.dt_life.specs.Sees.{Sees}
use Rattle.dt_proto.specs.Legal.{HasLowerPlace, IsAbove}
use Rattle.dt_proto.specs.Line.{ask_in}
use Rattle.dt_proto.specs.Trail.{WrittenItem}
use Rattle.dt_trail.specs.Items.{TrailItem, line, long_line, fired, whose}
use Rattle.dt_legal.specs.Rows.{told_as, past_of, life_of_row, IsLegalRow, line_form_of, IsAtLowerPlace, AreBelowPlace}
use Rattle.dt_legal.specs.laws.Beginning.{past_of_last}

all_both : {X : Type 0} (P : X → Type 0) (xs ys : List X) → AllByRecursion P xs → AllByRecursion P ys → AllByRecursion P (xs ++ ys)
all_both P [] ys h k = k
all_both P (x ∷ xs) ys h k = (h.0, all_both P xs ys h.1 k)

-- what holds of all items of a row holds of what they tell, the newest first
all_told : (P : WrittenItem → Type 0) (row : List TrailItem) → AllByRecursion (λ item. P (told_as item)) row
    → AllByRecursion P (past_of row)
all_told P [] h = tt
all_told P (item ∷ row) h =
    let last : AllByRecursion P (past_of row ++ told_as item ∷ []) =
    all_both P (past_of row) (told_as item ∷ []) (all_told P row h.1) (h.0, tt) in
    subst (AllByRecursion P) (sym (reverse-append (told_as item ∷ []) (map told_as row))) last

head_of : (P : TrailItem → Type 0) (b : Bool) (x : TrailItem) (xs : List TrailItem) → b ≡ true
    → AllByRecursion P (cond b (x ∷ xs) xs) → P x
head_of P true x xs e h = h.0
head_of P false x xs e h = absurd (cc e)

rest_of : (P : TrailItem → Type 0) (b : Bool) (x : TrailItem) (xs : List TrailItem)
    → AllByRecursion P (cond b (x ∷ xs) xs) → AllByRecursion P xs
rest_of P true x xs h = h.1
rest_of P false x xs h = h

-- what is below a place among a processor's own firings is below it among all
lower_in : (cpu place : ℕ) (row : List TrailItem) → AreBelowPlace cpu place row
    → AllByRecursion (λ item. HasLowerPlace cpu place (told_as item)) row
lower_in cpu place [] h = tt
lower_in cpu place (line bytes ∷ row) h =
    (tt, lower_in cpu place row (rest_of (IsAtLowerPlace place) (0 == cpu + 1) (line bytes) (filter (λ x. whose x == cpu + 1) row) h))
lower_in cpu place (long_line ∷ row) h =
    (tt, lower_in cpu place row (rest_of (IsAtLowerPlace place) (0 == cpu + 1) long_line (filter (λ x. whose x == cpu + 1) row) h))
lower_in cpu place (fired n earlier ∷ row) h = (
  λ same. head_of (IsAtLowerPlace place) (n + 1 == cpu + 1) (fired n earlier) (filter (λ x. whose x == cpu + 1) row)
      (eq-eqb (n + 1) (cpu + 1) (ap (λ m. m + 1) same)) h,
  lower_in cpu place row
      (rest_of (IsAtLowerPlace place) (n + 1 == cpu + 1) (fired n earlier) (filter (λ x. whose x == cpu + 1) row) h),
)

above : (cpu place : ℕ) (row : List TrailItem) → AreBelowPlace cpu place row → IsAbove (past_of row) cpu place
above cpu place row h = all_told (HasLowerPlace cpu place) row (lower_in cpu place row h)

module _ (account : Account) (contents : Contents) where
  -- a row with a line more, which is within the quota
  pub line_follows : (row : List TrailItem) (item : TrailItem) → whose item ≡ 0
      → IsLegalRow account contents row → is_over (life_of_row account contents row) ≡ false
      → IsLegalRow account contents (row ++ item ∷ [])
      × (life_of_row account contents (row ++ item ∷ []) ≡ after_line (life_of_row account contents row) (ask_in (line_form_of item)))
  line_follows row (line bytes) mine legal over = (rw (past_of_last row (line bytes)) (legal, over), rw (past_of_last row (line bytes), over) refl)
  line_follows row long_line mine legal over = (rw (past_of_last row long_line) (legal, over), rw (past_of_last row long_line, over) refl)
  line_follows row (fired cpu place) mine legal over = absurd (omega (arith, mine))

  -- a row with a firing more, which is seen
  pub firing_follows : (row : List TrailItem) (cpu place : ℕ) (firing : Firing)
      → IsLegalRow account contents row → firing_at contents.scripts cpu place ≡ Some firing
      → Sees account contents.registry (life_of_row account contents row) firing → AreBelowPlace cpu place row
      → IsLegalRow account contents (row ++ fired cpu place ∷ [])
      × (life_of_row account contents (row ++ fired cpu place ∷ []) ≡ fired_item firing ∷ life_of_row account contents row)
  firing_follows row cpu place firing legal found sees below =
      rw (past_of_last row (fired cpu place), found)
      ((legal, (above cpu place row below, (firing, refl, sees))), refl)
