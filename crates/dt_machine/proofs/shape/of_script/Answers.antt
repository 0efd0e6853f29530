-- What the proof of `of_script` is told at its goals.
use Rattle.std.proofs.Common.{map}
use Rattle.serde_json.specs.View.{view}
use Rattle.dt_machine.specs.declared.found.FileKey.TheVariants as key
use Rattle.dt_machine.specs.declared.found.Part.TheVariants as part
use Rattle.dt_machine.specs.Found.{of, IsMisshapenFiring}
use Rattle.dt_machine.specs.Shape.{is_firing}
use Rattle.dt_machine.proofs.Shapes.{items_answer, no_items}
use Rattle.dt_machine.proofs.shape.of_script.Goals as goal

pub returns-in-Some : goal.returns-in-Some
returns-in-Some c =
    items_answer (of (part.Script c.args.cpu) key.Scripts) is_firing (IsMisshapenFiring c.args.cpu) c.first_firing.result
    (view c.args.script.now) (map view c.in-Some.rows.now) c.in-Some.ensures c.first_firing.ensures

pub returns-in-None : goal.returns-in-None
returns-in-None c =
    no_items (of (part.Script c.args.cpu) key.Scripts) is_firing (IsMisshapenFiring c.args.cpu) (view c.args.script.now)
    c.has.result c.in-None.ensures c.has.ensures
