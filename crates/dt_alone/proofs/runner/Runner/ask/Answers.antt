-- A line is answered, and then part of the life.
use Rattle.std.proofs.Common.{Ok, refl, sym, ap, ◌∙◌, subst, arith}
use Rattle.dt_alone.specs.Runs.{Runs}
use Rattle.dt_alone.proofs.Replying.{has_same, no_command}
use Rattle.dt_life.specs.Answer.{answer_of}
use Rattle.dt_life.specs.Ask.{ask_of, line_asks}
use Rattle.dt_life.specs.Acceptance.{after_line}
use Rattle.dt_life.specs.Reply.{Replies}
use Rattle.dt_life.specs.Life.{set_up}
use Rattle.dt_life.specs.laws.Verdicts.{in_quota}
use Rattle.dt_life.specs.laws.Lines.{after_counted}
use Rattle.dt_life.specs.laws.Options.{if_ok_map}
use Rattle.dt_alone.proofs.runner.Runner.ask.Goals as goal

pub returns-in-Ok : goal.returns-in-Ok
returns-in-Ok c =
    if_ok_map _ _ c.answer.result
    (λ reply h. λ account life r.
    let registry = c.args.machine.now.registry in
    let s = set_up account registry life in
    let fresh = sym (c.is_over.ensures.over account registry life r) ∙ c.if-is_over.false in
    let two = h account life (record {
      has = has_same account registry s c.args.self.now _ r.has (record { account = refl; seen = refl; since = refl }) refl refl
          refl refl;
      counted = omega (arith, r.counted);
    }) in
    subst
    (λ l. Replies account c.args.machine.now.registry life l (answer_of reply)
    × Runs account c.args.machine.now.registry c.answer.new.self (after_line life l))
    (sym (ap line_asks c.in-Ok.is)) (
      in_quota account registry life (Ok (ask_of c.in-Ok.command)) (answer_of reply) fresh two.0,
      subst (λ l. Runs account c.args.machine.now.registry c.answer.new.self l) (sym (after_counted life (Ok
          (ask_of c.in-Ok.command)) fresh)) two.1,
    ))
    c.answer.ensures

pub returns-in-Err : goal.returns-in-Err
returns-in-Err c = λ account life r.
    no_command account c.args.machine.now.registry life c.args.self.now _ (line_asks c.args.line.now) c.in-Err.refusal r
    (sym (c.is_over.ensures.over account c.args.machine.now.registry life r) ∙ c.if-is_over.false)
    (ap line_asks c.in-Err.is) (record { account = refl; seen = refl; since = refl }) refl refl refl refl refl
