-- What holds at each turn of the loops of `first_probe`.
use Rattle.std.proofs.Common.{◌≡◌, map, true}
use Rattle.serde_json.specs.View.{view}
use Rattle.dt_machine.specs.Given.{is_text}
use Rattle.dt_machine.proofs.Searching.{RightUpTo}
use Rattle.dt_machine.proofs.shape.first_probe.Given as goal

abbrev pub invariant-loop-at : goal.invariant-loop-at
invariant-loop-at l = RightUpTo (λ _ d. is_text d ≡ true) (map view l.rows) l.at
