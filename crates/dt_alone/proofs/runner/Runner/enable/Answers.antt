-- A text is enabled as the one reading that it has.
use Rattle.std.proofs.Common.{Err, sym, ap, ◌∙◌, subst}
use Rattle.dt_lang.specs.Program.{form_of_program}
use Rattle.dt_lang.specs.Reads.{program}
use Rattle.dt_alone.specs.Runs.{Answers}
use Rattle.dt_alone.proofs.Replying.{begun, early, refuses, text_refused}
use Rattle.dt_life.specs.Ask.{enable, reading_of, is_read}
use Rattle.dt_life.specs.declared.refusal.Refusal.TheVariants.{Busy}
use Rattle.dt_life.specs.laws.Verdicts.{enable_busy, idle_late}
use Rattle.dt_life.specs.laws.Options.{if_ok_map}
use Rattle.dt_alone.proofs.runner.Runner.enable.Goals as goal

pub returns-then-not-is_inactive : goal.returns-then-not-is_inactive
returns-then-not-is_inactive c = λ account life k.
    let registry = c.args.machine.now.registry in
    let on = begun account registry life c.args.self.now k (sym c.is_inactive.ensures ∙ c.if-not-is_inactive.true) in
    refuses account registry life c.args.self.now k (enable (reading_of c.args.text.now)) Busy
    (enable_busy account registry life (reading_of c.args.text.now) on)
    (idle_late account registry life (reading_of c.args.text.now) on)

pub returns-in-Ok : goal.returns-in-Ok
returns-in-Ok c =
    if_ok_map _ _ c.enable_program.result
    (λ reply h. λ account life k.
    let registry = c.args.machine.now.registry in
    let off = early account registry life c.args.self.now k (sym c.is_inactive.ensures ∙ c.if-not-is_inactive.false) in
    subst (λ r. Answers account c.args.machine.now.registry life (enable r) reply c.enable_program.new.self)
    (c.one_reading.ensures c.args.text.now (program (form_of_program c.in-Ok.program)) (reading_of c.args.text.now)
    c.in-Ok.ensures.read (is_read c.args.text.now))
    (h account life k off))
    c.enable_program.ensures

pub returns-in-Some : goal.returns-in-Some
returns-in-Some c = λ account life k.
    let registry = c.args.machine.now.registry in
    let off = early account registry life c.args.self.now k (sym c.is_inactive.ensures ∙ c.if-not-is_inactive.false) in
    text_refused account registry life c.args.self.now k c.args.text.now c.in-Err.fault c.in-Some.refusal
    c.one_reading.ensures
    (λ at end flaw e. c.in-Err.ensures.fault at end flaw (ap Err e))
    (λ at end what e. c.in-Err.ensures.destructive at end what (ap Err e))
    c.in-Some.ensures off
