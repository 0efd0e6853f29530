-- The token is one too many, or shows its cause at its place, or what comes of it says it.
use Rattle.std.proofs.Common.{Some, None, ◌∙◌}
use Rattle.dt_lang.specs.machine.ReaderView.{program_state_of}
use Rattle.dt_lang.proofs.ShownLaws.{answers_too_long, push_shown, push_late, outcome_is}
use Rattle.dt_lang.proofs.reader.ProgramReader.push.Goals as goal

pub returns-in-Some : goal.returns-in-Some
returns-in-Some c =
    answers_too_long (program_state_of c.args.self.now) c.args.token c.in-Some.limit
    (program_state_of c.exceeds.new.self) (c.in_ok-limit.ensures.told ∙ c.in-Some.is)

pub returns-in-Some-shown : goal.returns-in-Some-shown
returns-in-Some-shown c =
    push_shown (program_state_of c.args.self.now) (program_state_of c.exceeds.new.self) c.args.token
    (c.in_ok-limit.ensures.told ∙ c.in_default.is) (c.in_ok-limit.ensures.kept c.in_default.is)
    c.in-Some-shown.refusal (program_state_of c.exceeds.new.self) c.in-Some-shown.ensures

pub returns-in-Some-2 : goal.returns-in-Some-2
returns-in-Some-2 c =
    push_late (program_state_of c.args.self.now) (program_state_of c.exceeds.new.self) c.args.token
    (c.in_ok-limit.ensures.told ∙ c.in_default.is) (c.in_ok-limit.ensures.kept c.in_default.is)
    (Some c.in-Some-2.flaw) (program_state_of c.step.new.self) c.requires c.in_default-shown.ensures
    (outcome_is _ _ _ (Some c.in-Some-2.flaw) (program_state_of c.step.new.self) c.in-Some-2.is c.in_ok-flaw.ensures)

pub returns-in-None : goal.returns-in-None
returns-in-None c =
    push_late (program_state_of c.args.self.now) (program_state_of c.exceeds.new.self) c.args.token
    (c.in_ok-limit.ensures.told ∙ c.in_default.is) (c.in_ok-limit.ensures.kept c.in_default.is)
    None (program_state_of c.step.new.self) c.requires c.in_default-shown.ensures
    (outcome_is _ _ _ None (program_state_of c.step.new.self) c.in-None.is c.in_ok-flaw.ensures)
