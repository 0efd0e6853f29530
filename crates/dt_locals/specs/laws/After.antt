-- What one more assignment does to values, to how many variables aren't 0, and to drops.
use Rattle.std.proofs.Common.{◌≡◌, ℕ, ◌+◌, ℤ, Bool, cond, [], ◌∷◌, ◌++◌, refl}
use Rattle.std.proofs.Common.{ap, ◌∙◌, arith}
use Rattle.std.specs.Prelude.{pos, not, count_by}
use Rattle.std.proofs.lemmas.List.Sums.{sum_by-append}
use Rattle.dt_locals.specs.History.{Assignment, LocalsPast, new_locals_past, locals_after, same_local}
use Rattle.dt_locals.specs.Values.{local_value, set_count, is_set}
use Rattle.dt_locals.specs.Chosen.{is_kept_assignment, locals_choice, value_after, local_drops}
use Rattle.dt_locals.specs.declared.variable.LocalVariable.{LocalVariable}
use Rattle.dt_locals.specs.laws.Choices.{is_choice, locals_choice-after}
use Rattle.dt_locals.specs.laws.Assigning.{local_value-push, set_count-push}

pub fresh_value : (dynvarsize : ℕ) (variable : LocalVariable) → value_after (new_locals_past dynvarsize) variable ≡ pos 0
unfolding value_after
fresh_value dynvarsize variable = refl

pub fresh_drops : (dynvarsize : ℕ) → local_drops (new_locals_past dynvarsize) ≡ 0
unfolding local_drops locals_choice
fresh_drops dynvarsize = refl

module _ (past : LocalsPast) (assignment : Assignment) where
  -- the test whether the assignment is kept
  abbrev pub Kept : Bool
  Kept = is_kept_assignment past.dynvarsize past.assignments (locals_choice past) assignment

  abbrev pub Gives : Bool → ℤ
  Gives kept = cond kept assignment.value (pos 0)

  pub value_more : (variable : LocalVariable)
      → value_after (locals_after past assignment) variable
      ≡ cond (same_local assignment.variable variable) (Gives Kept) (value_after past variable)
  unfolding value_after
  value_more variable =
      ap (λ c. local_value (past.assignments ++ assignment ∷ []) c variable) (locals_choice-after past assignment)
      ∙ local_value-push past.assignments (locals_choice past) assignment Kept variable (is_choice past).whole

  pub count_more : set_count (past.assignments ++ assignment ∷ []) (locals_choice (locals_after past assignment))
      + cond (is_set (value_after past assignment.variable)) 1 0
      ≡ set_count past.assignments (locals_choice past) + cond (is_set (Gives Kept)) 1 0
  unfolding value_after
  count_more =
      let was = local_value past.assignments (locals_choice past) assignment.variable in
      ap (λ c. set_count (past.assignments ++ assignment ∷ []) c + cond (is_set was) 1 0) (locals_choice-after past assignment)
      ∙ set_count-push past.assignments (locals_choice past) assignment Kept (is_choice past).whole

  pub drops_more : local_drops (locals_after past assignment) ≡ local_drops past + cond (not Kept) 1 0
  unfolding local_drops
  drops_more =
      ap (count_by not) (locals_choice-after past assignment)
      ∙ sum_by-append (λ b. cond (not b) 1 0) (locals_choice past) (Kept ∷ []) ∙ omega arith
