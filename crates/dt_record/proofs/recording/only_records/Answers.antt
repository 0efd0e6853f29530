-- What the proof of `only_records` is told at its goals.
use Rattle.std.proofs.Common.{ap, sym, ◌∙◌}
use Rattle.std.specs.List.{list_all}
use Rattle.dt_program.specs.Clause.{form_of_statement}
use Rattle.dt_record.specs.Taking as spec
use Rattle.dt_record.proofs.Loops.{list_all-map}
use Rattle.dt_record.proofs.recording.only_records.Goals as goal

pub returns : goal.returns
returns c =
    c.all_record.ensures
    ∙ ap (list_all (λ statement. spec.is_recording (form_of_statement statement))) c.deref.ensures.value
    ∙ sym (list_all-map spec.is_recording form_of_statement c.args.clause.now.statements.items)
