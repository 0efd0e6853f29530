-- What holds at each turn of the loops of `first_account`.
use Rattle.std.proofs.Common.{◌≡◌, map, true}
use Rattle.serde_json.specs.View.{view}
use Rattle.dt_machine.specs.Shape.{is_account}
use Rattle.dt_machine.proofs.Searching.{RightUpTo}
use Rattle.dt_machine.proofs.shape.first_account.Given as goal

abbrev pub invariant-loop-at : goal.invariant-loop-at
invariant-loop-at l = RightUpTo (λ _ d. is_account d ≡ true) (map view l.rows) l.at
