-- Takings of ECBs, one after another.
use Rattle.dt_life.specs.laws.InTurn.{are_in_turn, one_in_turn}
use Rattle.dt_life.proofs.laws.one_row_of_takings.Goals as goal

pub returns : goal.returns
returns c = record {
  some = λ options steps in_end context ecbs. are_in_turn options steps in_end context ecbs;
  one = λ options steps in_end context ecbs a b are they. one_in_turn options steps in_end context ecbs a b are they;
}
