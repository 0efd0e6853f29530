-- What is found in slots.
use Rattle.std.proofs.Common.{◌≡◌, ℕ, zero, suc, ◌+◌, ◌<◌, ◌≤◌, ⊎_elim, ℤ, cond, List, [], ◌∷◌, length}
use Rattle.std.proofs.Common.{drop, refl, sym, ap, ◌∙◌, subst, arith}
use Rattle.std.specs.Prelude.{◌≢◌, pos}
use Rattle.std.specs.List.{sum_by}
use Rattle.std.proofs.lemmas.Bool.{cases_order}
use Rattle.std.proofs.lemmas.List.{length-drop}
use Rattle.std.proofs.lemmas.List.Sums.{sum_by-take-drop, sum_by-drop_more}
use Rattle.dt_locals.specs.Hash.{home_in}
use Rattle.dt_locals.specs.Values.{is_set}
use Rattle.dt_locals.specs.Slots.{free_slot, slot_at, value_at, local_at, taken_count, HasValue, AreHashed, IsSlotFor}
use Rattle.dt_locals.specs.declared.slots.LocalSlot.{LocalSlot}
use Rattle.dt_locals.specs.declared.variable.LocalVariable.{LocalVariable}
use Rattle.dt_locals.specs.laws.Same.{zero_or, set_yes}

abbrev pub IsTaken : LocalSlot → Type 0
IsTaken slot = slot.value ≢ pos 0

past_end : (slots : List LocalSlot) (i : ℕ) → length slots ≤ i → slot_at slots i ≡ free_slot
past_end [] i h = refl
past_end (slot ∷ slots) zero h = absurd (omega arith)
past_end (slot ∷ slots) (suc i) h = past_end slots i (omega arith)

-- a slot that is taken is one of them
pub taken_within : (slots : List LocalSlot) (i : ℕ) → value_at slots i ≢ pos 0 → i < length slots
taken_within slots i taken = ⊎_elim
    (λ same. absurd (taken (ap (λ (s : LocalSlot). s.value) (past_end slots i (omega arith)))))
    (λ order. ⊎_elim (λ before. before)
    (λ later. absurd (taken (ap (λ (s : LocalSlot). s.value) (past_end slots i (omega arith))))) order)
    (cases_order i (length slots))

module _ (home : LocalVariable → ℕ) (slots : List LocalSlot) (hashed : AreHashed home slots) where
  -- no slot between a home and what lies there is free
  pub none_between : (place passed : ℕ) → value_at slots place ≢ pos 0 → home (local_at slots place) ≤ passed
      → passed ≤ place → value_at slots passed ≢ pos 0
  none_between place passed taken from le =
      hashed.between place passed taken from le (λ e. absurd (omega (arith, taken_within slots place taken)))

  module _ (variable : LocalVariable) (place : ℕ) (found : IsSlotFor home slots variable place) where
    -- a variable lies where it is found, and nowhere else
    pub found_only : (one : ℕ) → value_at slots one ≢ pos 0 → local_at slots one ≡ variable → one ≡ place
    found_only one taken own = ⊎_elim
        (λ same. same)
        (λ order. ⊎_elim
        (λ before. absurd ((found.passed one (subst (λ v. home v ≤ one) own (hashed.from one taken)) before).1 own))
        (λ later.
        let held = none_between one place taken (subst (λ v. home v ≤ place) (sym own) found.from) (omega arith) in
        ⊎_elim (λ free. absurd (held free)) (λ here. hashed.apart one place taken held (own ∙ sym here)) found.here)
        order)
        (cases_order one place)

    -- what lies there is its value
    pub found_value : (value : ℤ) → HasValue slots variable value → value_at slots place ≡ value
    found_value value has = ⊎_elim
        (λ free. ⊎_elim (λ none. free ∙ sym none) (λ some. absurd (absent free some)) (zero_or value))
        (λ taken. ⊎_elim (λ free. absurd (taken free)) (λ own. has.only place taken own) found.here)
        (zero_or (value_at slots place))
      where
        absent : value_at slots place ≡ pos 0 → value ≢ pos 0 → ⊥
        absent free some =
            let s = has.some some in
            let there = found_only s.0 (λ e. some (sym s.2 ∙ e)) s.1 in
            some (sym s.2 ∙ ap (λ p. value_at slots p) there ∙ free)

-- ---- there is a free one

abbrev pub Counted : LocalSlot → ℕ
Counted slot = cond (is_set slot.value) 1 0

all_taken : (slots : List LocalSlot) (n from : ℕ) → from + n ≡ length slots
    → ((place : ℕ) → from ≤ place → place < length slots → value_at slots place ≢ pos 0)
    → sum_by Counted (drop from slots) ≡ n + sum_by Counted (drop (from + n) slots)
all_taken slots zero from long taken =
    let none : from + 0 ≡ from = omega arith in
    let same : sum_by Counted (drop (from + 0) slots) ≡ sum_by Counted (drop from slots) =
    ap (λ i. sum_by Counted (drop i slots)) none in
    omega (arith, same)
all_taken slots (suc n) from long taken =
    let more : sum_by Counted (drop (from + 1) slots) ≡ n + sum_by Counted (drop (from + 1 + n) slots) =
    all_taken slots n (from + 1) (omega arith) (λ place le lt. taken place (omega arith) lt) in
    let one : Counted (slot_at slots from) ≡ 1 =
    ap (λ b. cond b 1 0) (set_yes (value_at slots from) (taken from (omega arith) (omega arith))) in
    let same : sum_by Counted (drop (from + 1 + n) slots) ≡ sum_by Counted (drop (from + suc n) slots) =
    (let there : from + 1 + n ≡ from + suc n = omega arith in ap (λ i. sum_by Counted (drop i slots)) there) in
    let lt : from < length slots = omega arith in
    omega (arith, sum_by-drop_more Counted slots from free_slot lt, more, one, same)

-- where all from one on are taken, there are no more of these than are taken at all
pub taken_from : (slots : List LocalSlot) (from : ℕ) → from ≤ length slots
    → ((place : ℕ) → from ≤ place → place < length slots → value_at slots place ≢ pos 0)
    → length slots ≤ from + taken_count slots
taken_from slots from within taken =
    let long : from + length (drop from slots) ≡ length slots = omega (arith, length-drop from slots) in
    let all = all_taken slots (length (drop from slots)) from long taken in
    omega (arith, all, sum_by-take-drop Counted slots from, length-drop from slots)

-- a home is one of the homes
pub home_within : (homes : ℕ) (variable : LocalVariable) → 0 < homes → home_in homes variable < homes
unfolding home_in
home_within homes variable some = omega arith
