-- A fact that stands for a number.
use Rattle.std.specs.Prelude.{ℕ, [], ◌∷◌}
use Rattle.dt_facts.specs.Facts.{knew, log_fact}
use Rattle.dt_facts.specs.declared.fact.Fact.{Fact}

abbrev pub number_fact : ℕ → Fact
number_fact number = log_fact ((knew 0 number ∷ []) ∷ [])
