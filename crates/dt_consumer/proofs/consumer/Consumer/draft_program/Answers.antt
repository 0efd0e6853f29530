-- A program is enabled, or refused for its first fault.
use Rattle.std.proofs.Common.{length, ap, arith}
use Rattle.dt_lang.specs.Program.{form_of_program}
use Rattle.dt_ecb.specs.Forms.{verdict_of}
use Rattle.dt_life.specs.Life.{set_up}
use Rattle.dt_consumer.proofs.Drafting.{program_refused, program_asked, next_is, enabled_asked}
use Rattle.dt_life.specs.laws.Options.{if_ok_map}
use Rattle.dt_consumer.proofs.consumer.Consumer.draft_program.Goals as goal

pub returns-in-Ok-clause-drafted : goal.returns-in-Ok-clause-drafted
returns-in-Ok-clause-drafted c =
    if_ok_map _ _ c.draft_enabled.result
    (λ draft h. λ account life m off.
    let registry = c.args.machine.now.registry in
    let s = set_up account registry life in
    let both = enabled_asked account registry s c.args.self.now m.stands.keeps _ _ _ c.in-Ok.ensures.enabled in
    h account registry life m off
    (next_is account registry s c.args.self.now m.stands.keeps _ (omega (arith, ap length c.ecbs.ensures.value)))
    both.0 both.1)
    c.draft_enabled.ensures.drafted

pub returns-in-Some-clause-drafted : goal.returns-in-Some-clause-drafted
returns-in-Some-clause-drafted c = λ account life m off.
    let registry = c.args.machine.now.registry in
    let s = set_up account registry life in
    program_refused account registry life c.one_verdict.ensures (form_of_program c.args.program)
    (verdict_of c.in-Err.fault) c.in-Some.refusal _ c.refused.ensures.reply c.refused.ensures.change m.in_quota off
    (program_asked account registry s c.args.self.now m.stands.keeps (form_of_program c.args.program) _
    (verdict_of c.in-Err.fault)
    (next_is account registry s c.args.self.now m.stands.keeps _ (omega (arith, ap length c.ecbs.ensures.value)))
    c.in-Err.ensures.refused)
    c.in-Some.ensures
