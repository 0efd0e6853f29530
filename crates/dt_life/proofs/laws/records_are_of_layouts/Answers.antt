-- What a life's takings leave is of its clauses' layouts, and so is what its buffers show.
use Rattle.dt_life.specs.laws.Records.{clause_of, life_assigned, life_taken, taken_of_layout, IsTakenOf}
use Rattle.dt_life.specs.laws.Scenes.{all_weaker, life_in}
use Rattle.dt_life.specs.laws.Shown.{shown_split}
use Rattle.dt_life.specs.Life.{ecbs, set_up, tracing_steps}
use Rattle.dt_life.specs.Scenes.{IsOfLayout}
use Rattle.dt_life.specs.TracingSteps.{taken_on}
use Rattle.std.specs.List.{flat_map}
use Rattle.std.proofs.Common.{map}
use Rattle.dt_life.proofs.laws.records_are_of_layouts.Goals as goal

pub returns : goal.returns
returns c = record {
  bounded = λ text contents account life described on.
      life_in c.read_is_in_bounds.ensures contents account life
      (c.described_is_in_bounds.ensures text contents described) on;
  fit = λ account registry life cpu is.
      let clauses = map clause_of (ecbs account registry life) in
      all_weaker (IsTakenOf clauses) IsOfLayout (taken_of_layout clauses)
      (flat_map (taken_on cpu) (tracing_steps account registry (set_up account registry life)))
      (life_taken account registry (c.ecbs_go_on.ensures account registry) life is cpu);
  assigned = λ account registry life is.
      life_assigned account registry (c.ecbs_go_on.ensures account registry) life is;
  shown = λ account registry life cpu bytes drops filled is shows.
      shown_split account registry (c.ecbs_go_on.ensures account registry) life is cpu bytes drops filled shows;
}
