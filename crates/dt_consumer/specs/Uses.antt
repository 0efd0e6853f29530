-- The uses of aggregations, as a consumer keeps them for its firings. `StandsFor` is made of them; who uses a consumer needs no part of it.
use Rattle.std.specs.Prelude.{◌≡◌, ◌==◌, ℕ, List, [], map, if◌then◌else◌}
use Rattle.std.specs.Option.{option_map_or}
use Rattle.dt_aggstore.specs.History as store
use Rattle.dt_ecb.specs.Shapes.{ShapeForm}
use Rattle.dt_lang.specs.Program.{ClauseForm}
use Rattle.dt_consumer.specs.declared.uses.Use.{Use}
use Rattle.dt_consumer.specs.declared.uses.Uses.{Uses}
use Rattle.dt_life.specs.Aggregations.{UseForm, split_by, uses_by}
use Rattle.dt_life.specs.Uses.{given_then}
use Rattle.dt_record.specs.Taking.{Outcome, TakenForm, left_in}

abbrev pub form_of_use : Use → UseForm
form_of_use one = (one.aggregation, one.keys)

abbrev pub form_of_uses : Uses → List UseForm
form_of_uses uses = map form_of_use uses.all.items

-- The uses are those of these clauses.
abbrev pub AreUses : List ShapeForm → List ClauseForm → List Uses → Type 0
AreUses shapes clauses uses = map form_of_uses uses ≡ map (λ clause. uses_by shapes clause.statements) clauses

-- what uses give of what comes of a clause
abbrev pub given_of : List UseForm → Outcome → List store.Event
given_of uses outcome = option_map_or (λ (form : TakenForm). split_by uses form.values) (left_in outcome) []

-- the pasts of all stores, and then what one of them is given
abbrev pub with_given : (ℕ → store.Past) → (cpu : ℕ) → List store.Event → ℕ → store.Past
with_given pasts cpu events j = given_then (pasts j) (if cpu == j then events else [])
