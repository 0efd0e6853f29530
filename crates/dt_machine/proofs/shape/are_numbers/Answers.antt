-- What the proof of `are_numbers` is told at its goals.
use Rattle.dt_machine.specs.Given.{is_integer}
use Rattle.dt_machine.proofs.Lists.{all_items}
use Rattle.dt_machine.proofs.shape.are_numbers.Goals as goal

pub returns-in-Some : goal.returns-in-Some
returns-in-Some c = all_items is_integer _ c.in-Some.list.now _ c.in-Some.ensures c.all_integers.ensures
