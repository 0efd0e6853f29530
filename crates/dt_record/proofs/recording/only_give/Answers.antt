-- What the proof of `only_give` is told at its goals.
use Rattle.std.proofs.Common.{ap, sym, ◌∙◌, ◌==◌, ◌&&◌, map}
use Rattle.std.specs.List.{list_all}
use Rattle.std.specs.Prelude.{not}
use Rattle.std.proofs.lemmas.List.{length-map}
use Rattle.dt_program.specs.Clause.{form_of_statement}
use Rattle.dt_record.specs.Taking as spec
use Rattle.dt_record.proofs.Loops.{list_all-map}
use Rattle.dt_record.proofs.recording.only_give.Goals as goal

pub returns-then-not-is_empty : goal.returns-then-not-is_empty
returns-then-not-is_empty c =
    c.all_give.ensures ∙ sym (list_all-map spec.is_giving form_of_statement c.args.statements.now)
    ∙ ap (λ empty. not empty && list_all spec.is_giving (map form_of_statement c.args.statements.now))
    (sym c.if-not-is_empty.true ∙ c.is_empty.ensures ∙ ap (λ n. n == 0) (sym (length-map c.args.statements.now form_of_statement)))
