-- What is to be shown of `cause_text`.
use Rattle.std.proofs.Common.{◌≡◌, Some, sym, ap, rules}
use Rattle.serde_json.specs.Written.{compact_text}
use Rattle.serde_json.proofs.OnLiterals.{serde_json_on_literals}
use Rattle.dt_life.specs.declared.phase.Phase.TheVariants.{Stopped}
use Rattle.dt_life.specs.declared.phase.End.TheVariants.{Stop, Exit, History}
use Rattle.dt_proto.specs.Reply.{cause_data}
use Rattle.dt_proto.proofs.written.cause_text.Goals as goal

pub returns-in-Stopped-Some-Stop : goal.returns-in-Stopped-Some-Stop
unfolding serde_json_on_literals
returns-in-Stopped-Some-Stop c =
    let phase : c.args.phase ≡ Stopped (Some Stop) = search rules in
    sym (ap (λ p. compact_text (cause_data p)) phase)

pub returns-in-Stopped-Some-Exit : goal.returns-in-Stopped-Some-Exit
unfolding serde_json_on_literals
returns-in-Stopped-Some-Exit c =
    let phase : c.args.phase ≡ Stopped (Some (Exit c.in-Stopped-Some-Exit.field-0-0-0)) = search rules in
    sym (ap (λ p. compact_text (cause_data p)) phase)

pub returns-in-Stopped-Some-History : goal.returns-in-Stopped-Some-History
unfolding serde_json_on_literals
returns-in-Stopped-Some-History c =
    let phase : c.args.phase ≡ Stopped (Some History) = search rules in
    sym (ap (λ p. compact_text (cause_data p)) phase)
