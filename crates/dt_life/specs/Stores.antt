-- What comes to the stores of a consumer's aggregations, one on each processor. Guide, Aggregations.
use Rattle.std.specs.Prelude.{ℕ, ◌==◌, List, [], map, if◌then◌else◌}
use Rattle.std.specs.List.{flat_map, range_with_len}
use Rattle.std.specs.Option.{option_map, option_to_list}
use Rattle.dt_aggstore.specs.Chosen.{drops}
use Rattle.dt_aggstore.specs.History as store
use Rattle.dt_cred.specs.declared.account.Account.{Account}
use Rattle.dt_ecb.specs.Shapes.{ShapeForm}
use Rattle.dt_machine.specs.Registry.{Registry}
use Rattle.dt_life.specs.Aggregations.{aggregation_of, contributions_of}
use Rattle.dt_life.specs.Life.{SetUp, shapes_in, tracing_steps}
use Rattle.dt_life.specs.Takings.{cpu_of}
use Rattle.dt_life.specs.TracingSteps.{TracingStep, takes, truncates}

-- what a step brings to a processor's store: contributions, or an aggregation is truncated
abbrev pub given_on : List ShapeForm → (cpu : ℕ) → TracingStep → List store.Event
given_on shapes cpu (takes t) = if cpu_of t == cpu then contributions_of shapes t else []
given_on shapes cpu (truncates name) = option_to_list (option_map store.truncated (aggregation_of shapes name))
given_on shapes cpu _ = []

-- the same for steps, in order
abbrev pub given_by_steps : List ShapeForm → (cpu : ℕ) → List TracingStep → List store.Event
given_by_steps shapes cpu steps = flat_map (given_on shapes cpu) steps

-- the past of a processor's store after steps
abbrev pub given_after : SetUp → List TracingStep → ℕ → store.Past
given_after s steps cpu = record { size = s.options.aggsize; events = given_by_steps (shapes_in s) cpu steps }

module _ (account : Account) (registry : Registry) where
  abbrev pub given_in : SetUp → ℕ → store.Past
  given_in s cpu = given_after s (tracing_steps account registry s) cpu

  -- the contributions that a processor's store doesn't keep
  abbrev pub aggdrops_in : SetUp → ℕ → ℕ
  aggdrops_in s cpu = drops (given_in s cpu)

  -- the pasts of all stores
  abbrev pub stores_in : SetUp → List store.Past
  stores_in s = map (given_in s) (range_with_len 0 registry.cpus)
