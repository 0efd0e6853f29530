-- What the proof of `leave_record` is told at its goals.
use Rattle.std.proofs.Common.{ap, sym, ◌∙◌, ◌==◌, ◌||◌, map}
use Rattle.std.specs.List.{list_any}
use Rattle.std.proofs.lemmas.List.{length-map}
use Rattle.dt_program.specs.Clause.{form_of_statement}
use Rattle.dt_record.specs.Taking as spec
use Rattle.dt_record.proofs.Loops.{list_any-map}
use Rattle.dt_record.proofs.recording.leave_record.Goals as goal

pub returns-else-is_empty : goal.returns-else-is_empty
returns-else-is_empty c =
    c.any_asks.ensures ∙ sym (list_any-map spec.asks_for_record form_of_statement c.args.statements.now)
    ∙ ap (λ empty. empty || list_any spec.asks_for_record (map form_of_statement c.args.statements.now))
    (c.if-is_empty.ensures ∙ ap (λ n. n == 0) (sym (length-map c.args.statements.now form_of_statement)))
