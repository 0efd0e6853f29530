-- What the proof of `first_of_processes` is told at its goals.
use Rattle.std.proofs.Common.{map, codes}
use Rattle.serde_json.specs.View.{view}
use Rattle.dt_machine.specs.declared.found.FileKey.TheVariants as key
use Rattle.dt_machine.specs.declared.found.Part.TheVariants as part
use Rattle.dt_machine.specs.Found.{of, IsMisshapenProcess}
use Rattle.dt_machine.specs.Given.{items_at}
use Rattle.dt_machine.specs.Shape.{is_process}
use Rattle.dt_machine.proofs.Shapes.{list_answer, no_list}
use Rattle.dt_machine.proofs.shape.first_of_processes.Goals as goal

pub returns-in-Some : goal.returns-in-Some
returns-in-Some c =
    list_answer (of part.File key.Processes) is_process IsMisshapenProcess c.first_process.result (codes "processes") (view c.args.file.now)
    (map view c.in-Some.rows.now) c.in-Some.ensures c.first_process.ensures

pub returns-in-None : goal.returns-in-None
returns-in-None c =
    no_list (of part.File key.Processes) is_process IsMisshapenProcess (items_at (codes "processes") (view c.args.file.now)) c.has.result
    c.in-None.ensures c.has.ensures
