-- What the proof of `are_texts` is told at its goals.
use Rattle.dt_machine.specs.Given.{is_text}
use Rattle.dt_machine.proofs.Lists.{all_items}
use Rattle.dt_machine.proofs.shape.are_texts.Goals as goal

pub returns-in-Some : goal.returns-in-Some
returns-in-Some c = all_items is_text _ c.in-Some.list.now _ c.in-Some.ensures c.all_texts.ensures
