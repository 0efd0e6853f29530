-- What is to be shown of `exceeds`.
use Rattle.std.proofs.Common.{sym, ◌∙◌}
use Rattle.dt_lang.specs.machine.ExpressionView.{state_of}
use Rattle.dt_lang.specs.machine.PlaceView.{slot_form}
use Rattle.dt_lang.proofs.KindLemmas.{long_within}
use Rattle.dt_lang.proofs.reader.ProgramReader.exceeds.Goals as goal

pub returns-in-Within-clause-told : goal.returns-in-Within-clause-told
returns-in-Within-clause-told c =
    rw c.in-Within.is
    (long_within (slot_form c.in-Within.slot) c.in-Within.count (state_of c.args.self.now.expression) c.args.token.now
    (sym c.is_long_name.ensures ∙ c.if-is_long_name.true))
