-- What holds at each turn of the loops of `first_script`.
use Rattle.std.proofs.Common.{◌≡◌, map, true}
use Rattle.serde_json.specs.View.{view}
use Rattle.dt_machine.specs.Shape.{is_firing}
use Rattle.dt_machine.specs.Given.{is_list_of}
use Rattle.dt_machine.proofs.Searching.{RightUpTo}
use Rattle.dt_machine.proofs.shape.first_script.Given as goal

abbrev pub invariant-loop-at : goal.invariant-loop-at
invariant-loop-at l = RightUpTo (λ _ d. (is_list_of is_firing) d ≡ true) (map view l.rows) l.at
