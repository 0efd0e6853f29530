-- What one more assignment does to variables at the end of a past.
use Rattle.std.proofs.Common.{◌≡◌, ◌+◌, ◌*◌, ◌<◌, ◌≤◌, ◌⊎◌, ◌↔◌, ⊎_elim, inl, inr, ℤ, Bool, cond, refl}
use Rattle.std.proofs.Common.{sym, ap, ◌∙◌, subst, IsTrue, arith}
use Rattle.std.specs.Prelude.{◌≢◌, pos, not}
use Rattle.dt_locals.specs.History.{Assignment, LocalsPast, locals_after, same_local}
use Rattle.dt_locals.specs.Values.{set_count, is_set}
use Rattle.dt_locals.specs.Chosen.{locals_choice, KeepsAssignment, value_after, local_drops}
use Rattle.dt_locals.specs.LocalsAreAt.{LocalsAreAt}
use Rattle.dt_locals.specs.Slots.{HasValue}
use Rattle.dt_locals.specs.declared.locals.Locals.{Locals}
use Rattle.dt_locals.specs.declared.variable.LocalVariable.{LocalVariable}
use Rattle.dt_locals.specs.laws.Same.{local_same}
use Rattle.dt_locals.specs.laws.Choices.{same_bits, kept_exactly}
use Rattle.dt_locals.specs.laws.Assigning.{Bit}
use Rattle.dt_locals.specs.laws.After.{Kept, Gives, value_more, count_more, drops_more}

module _ (past : LocalsPast) (locals : Locals) (at : LocalsAreAt past locals) (assignment : Assignment) (kept : Bool)
    (value : ℤ) (same_value : value ≡ assignment.value)
    (answers : (was : ℤ) → HasValue locals.table.slots.items assignment.variable was
    → (IsTrue kept ↔ ((value ≡ pos 0) ⊎ ((was ≢ pos 0) ⊎ (locals.table.taken < locals.table.room)))))
  where
    abbrev Fits : Type 0
    Fits = 32 * (set_count past.assignments (locals_choice past) + 1) ≤ past.dynvarsize

    fits : locals.table.taken < locals.table.room → Fits
    fits room = omega (arith, room, at.taken, at.room)

    has_room : Fits → locals.table.taken < locals.table.room
    has_room room = omega (arith, room, at.taken, at.room)

    -- what is answered is whether the assignment is kept
    pub keeps : IsTrue kept ↔ KeepsAssignment past assignment
    unfolding value_after
    keeps =
        let told = answers (value_after past assignment.variable) (at.values assignment.variable) in (
          (λ yes. ⊎_elim (λ none. inl (sym same_value ∙ none))
              (λ other. inr (⊎_elim inl (λ room. inr (fits room)) other)) (told.0 yes)),
          (λ k. told.1 (⊎_elim (λ none. inl (same_value ∙ none))
              (λ other. inr (⊎_elim inl (λ room. inr (has_room room)) other)) k)),
        )

    pub kept_is : Kept past assignment ≡ kept
    kept_is =
        same_bits (Kept past assignment) kept (KeepsAssignment past assignment)
        (kept_exactly past.dynvarsize past.assignments (locals_choice past) assignment) keeps

    -- the variable has the value now, or is 0
    pub has : value_after (locals_after past assignment) assignment.variable ≡ cond kept assignment.value (pos 0)
    has =
        value_more past assignment assignment.variable
        ∙ ap (λ t. cond t (Gives past assignment (Kept past assignment)) (value_after past assignment.variable))
        (local_same assignment.variable assignment.variable refl)
        ∙ ap (Gives past assignment) kept_is

    -- the variables are at the end of the past that is one assignment longer
    pub stands : (now : Locals) → now.table.room ≡ locals.table.room
        → ((other : LocalVariable) (was : ℤ) → HasValue locals.table.slots.items other was
        → HasValue now.table.slots.items other
        (cond (same_local assignment.variable other) (cond kept value (pos 0)) was))
        → ((was : ℤ) → HasValue locals.table.slots.items assignment.variable was
        → now.table.taken + cond (is_set was) 1 0
        ≡ locals.table.taken + cond (is_set (cond kept value (pos 0))) 1 0)
        → now.drops ≡ locals.drops + cond (not kept) 1 0
        → LocalsAreAt (locals_after past assignment) now
    stands now room values taken dropped = record {
      room = room ∙ at.room;
      values = λ variable. subst (HasValue now.table.slots.items variable)
          (sym (value_more past assignment variable
          ∙ ap (λ b. cond (same_local assignment.variable variable) (Gives past assignment b) (value_after past variable))
          kept_is
          ∙ sym (ap (λ z. cond (same_local assignment.variable variable) (cond kept z (pos 0)) (value_after past variable))
          same_value)))
          (values variable (value_after past variable) (at.values variable));
      taken =
          let more = taken (value_after past assignment.variable) (at.values assignment.variable) in
          let count = count_more past assignment in
          let same : Bit (is_set (Gives past assignment (Kept past assignment))) ≡ Bit (is_set (cond kept value (pos 0))) =
          ap (λ b. Bit (is_set (Gives past assignment b))) kept_is
          ∙ sym (ap (λ z. Bit (is_set (cond kept z (pos 0)))) same_value) in
          omega (arith, more, count, same, at.taken);
      dropped = dropped
          ∙ ap (λ n. n + cond (not kept) 1 0) at.dropped
          ∙ sym (drops_more past assignment ∙ ap (λ b. local_drops past + cond (not b) 1 0) kept_is);
    }
