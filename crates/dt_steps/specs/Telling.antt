-- What a step answers, of the world before it and after it.
use Rattle.std.specs.Prelude.{◌≡◌, Some}
use Rattle.dt_machine.specs.Registry.{Registry}
use Rattle.dt_steps.specs.Stands.{IsAnswered, IsLooked}
use Rattle.dt_steps.specs.World.{World}
use Rattle.dt_steps.specs.declared.outcome.StepAnswer.{StepAnswer}
use Rattle.dt_steps.specs.declared.outcome.StepAnswer.TheVariants.{Quiet, Replied, Looked}

-- Nothing: no question more and no look more. A reply: one question more. A mask: one look more.
abbrev pub IsTelling : Registry → (before after : World) → StepAnswer → Type 0
IsTelling registry before after Quiet = (after.questions ≡ before.questions) × (after.looks ≡ before.looks)
IsTelling registry before after (Replied seat text) =
    IsAnswered registry before after seat (Some text.items) × (after.looks ≡ before.looks)
IsTelling registry before after (Looked mask) = (after.questions ≡ before.questions) × IsLooked before after (Some mask)
