-- One assignment more.
use Rattle.std.proofs.Common.{◌≡◌, ◌+◌, ℕ, Bool, true, false, cond, refl, sym, ap, ◌∙◌}
use Rattle.std.specs.Prelude.{not}
use Rattle.dt_locals.specs.Values.{set_count, is_set}
use Rattle.dt_locals.specs.Chosen.{locals_choice, value_after, local_drops}
use Rattle.dt_locals.specs.laws.Choices.{locals_choice-after}
use Rattle.dt_locals.specs.laws.Same.{local_same, local_other}
use Rattle.dt_locals.specs.laws.After.{Kept, Gives, value_more, count_more, drops_more}
use Rattle.dt_locals.proofs.laws.one_assignment.Goals as goal

pub returns-clause-chosen : goal.returns-clause-chosen
returns-clause-chosen c = locals_choice-after

pub returns-clause-own : goal.returns-clause-own
returns-clause-own c = λ past assignment.
    value_more past assignment assignment.variable
    ∙ ap (λ t. cond t (Gives past assignment (Kept past assignment)) (value_after past assignment.variable))
    (local_same assignment.variable assignment.variable refl)

pub returns-clause-others : goal.returns-clause-others
returns-clause-others c = λ past assignment other apart.
    value_more past assignment other
    ∙ ap (λ t. cond t (Gives past assignment (Kept past assignment)) (value_after past other))
    (local_other assignment.variable other apart)

pub returns-clause-count : goal.returns-clause-count
returns-clause-count c = λ past assignment.
    count_more past assignment
    ∙ ap (λ z. set_count past.assignments (locals_choice past) + cond (is_set z) 1 0)
    (sym (returns-clause-own c past assignment))

turned : (drops : ℕ) (b : Bool) → drops + cond (not b) 1 0 ≡ drops + cond b 0 1
turned drops true = refl
turned drops false = refl

pub returns-clause-dropped : goal.returns-clause-dropped
returns-clause-dropped c = λ past assignment.
    drops_more past assignment ∙ turned (local_drops past) (Kept past assignment)
