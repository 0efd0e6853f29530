-- What the proof of `first_of_probes` is told at its goals.
use Rattle.std.proofs.Common.{map, codes}
use Rattle.serde_json.specs.View.{view}
use Rattle.dt_machine.specs.declared.found.FileKey.TheVariants as key
use Rattle.dt_machine.specs.declared.found.Part.TheVariants as part
use Rattle.dt_machine.specs.Found.{of, IsMisshapenProbe}
use Rattle.dt_machine.specs.Given.{items_at}
use Rattle.dt_machine.specs.Given.{is_text}
use Rattle.dt_machine.proofs.Shapes.{list_answer, no_list}
use Rattle.dt_machine.proofs.shape.first_of_probes.Goals as goal

pub returns-in-Some : goal.returns-in-Some
returns-in-Some c =
    list_answer (of part.File key.Probes) is_text IsMisshapenProbe c.first_probe.result (codes "probes") (view c.args.file.now)
    (map view c.in-Some.rows.now) c.in-Some.ensures c.first_probe.ensures

pub returns-in-None : goal.returns-in-None
returns-in-None c =
    no_list (of part.File key.Probes) is_text IsMisshapenProbe (items_at (codes "probes") (view c.args.file.now)) c.has.result
    c.in-None.ensures c.has.ensures
