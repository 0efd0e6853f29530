-- A text is drafted as the one reading that it has.
use Rattle.std.proofs.Common.{Ok, Err, refl, ap, subst}
use Rattle.dt_lang.specs.Program.{form_of_program}
use Rattle.dt_lang.specs.Reads.{program}
use Rattle.dt_life.specs.Ask.{enable, reading_of, is_read}
use Rattle.dt_consumer.specs.Draft.{IsDraftOf}
use Rattle.dt_consumer.proofs.DraftLemmas.{refused_by}
use Rattle.dt_life.specs.laws.Verdicts.{enable_busy, idle_late}
use Rattle.dt_consumer.proofs.Drafting.{text_refused}
use Rattle.dt_life.specs.laws.Options.{if_ok_map}
use Rattle.dt_consumer.proofs.consumer.Consumer.draft_enable.Goals as goal

pub returns-then-is_late-clause-drafted : goal.returns-then-is_late-clause-drafted
returns-then-is_late-clause-drafted c = λ account life m.
    let registry = c.args.machine.now.registry in
    let on = c.is_late.ensures.late account registry life m.stands c.if-is_late.true in
    refused_by account registry life (enable (reading_of c.args.text.now)) _ _
    c.refused.ensures.reply c.refused.ensures.change m.in_quota
    (enable_busy account registry life (reading_of c.args.text.now) on)
    (idle_late account registry life (reading_of c.args.text.now) on) refl

pub returns-in-Ok-clause-drafted : goal.returns-in-Ok-clause-drafted
returns-in-Ok-clause-drafted c =
    if_ok_map _ _ c.draft_program.result
    (λ draft h. λ account life m.
    let registry = c.args.machine.now.registry in
    let off = c.is_late.ensures.early account registry life m.stands c.if-is_late.false in
    subst (λ r. IsDraftOf account c.args.machine.now.registry life (Ok (enable r)) draft)
    (c.one_reading.ensures c.args.text.now (program (form_of_program c.in-Ok.program)) (reading_of c.args.text.now)
    c.in-Ok.ensures.read (is_read c.args.text.now))
    (h account life m off))
    c.draft_program.ensures.drafted

pub returns-in-Some-clause-drafted : goal.returns-in-Some-clause-drafted
returns-in-Some-clause-drafted c = λ account life m.
    let registry = c.args.machine.now.registry in
    let off = c.is_late.ensures.early account registry life m.stands c.if-is_late.false in
    text_refused account registry life c.args.text.now c.in-Err.fault c.in-Some.refusal _ c.one_reading.ensures
    (λ at end flaw e. c.in-Err.ensures.fault at end flaw (ap Err e))
    (λ at end what e. c.in-Err.ensures.destructive at end what (ap Err e))
    c.in-Some.ensures c.refused-in-Some.ensures.reply c.refused-in-Some.ensures.change m.in_quota off
