-- What the proof of `only_gives` is told at its goals.
use Rattle.std.proofs.Common.{ap, ◌∙◌, map}
use Rattle.dt_program.specs.Clause.{form_of_statement}
use Rattle.dt_record.specs.Taking as spec
use Rattle.dt_record.proofs.recording.only_gives.Goals as goal

pub returns : goal.returns
returns c = c.only_give.ensures ∙ ap (λ xs. spec.only_gives (map form_of_statement xs)) c.deref.ensures.value
