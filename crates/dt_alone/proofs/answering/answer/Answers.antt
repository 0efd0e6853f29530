-- The bytes are those of the runner's reply.
use Rattle.std.proofs.Common.{◌≡◌, Result, Ok, Err, IfOk, subst}
use Rattle.dt_life.specs.Answer.{answer_of}
use Rattle.dt_life.specs.Ask.{Ask}
use Rattle.dt_life.specs.Acceptance.{after_line}
use Rattle.dt_life.specs.Reply.{Replies}
use Rattle.dt_life.specs.declared.refusal.Refusal.{Refusal}
use Rattle.dt_proto.specs.Reply.{reply_text}
use Rattle.dt_alone.specs.Runs.{Runs}
use Rattle.dt_alone.proofs.answering.answer.Goals as goal

where_ok : {A E : Type 0} (P Q : A → Type 0) (r : Result A E) → IfOk r P → ((x : A) → P x → Q x) → IfOk r Q
where_ok P Q (Ok x) h more = more x h
where_ok P Q (Err e) h more = h

pub returns : goal.returns
returns c =
    where_ok (λ bytes. bytes.items ≡ reply_text (answer_of c.in_ok-reply.reply)) _ c.reply_bytes.result
    c.reply_bytes.ensures
    (λ bytes text account life runs.
    let registry = c.args.machine.now.registry in
    let asked = subst
    (λ (ask : Result Ask Refusal). Replies account registry life ask (answer_of c.in_ok-reply.reply)
    × Runs account registry c.ask.new.self (after_line life ask))
    c.in_ok-asked.ensures.asks (c.in_ok-reply.ensures account life runs) in
    record { answer = answer_of c.in_ok-reply.reply; replies = asked.0; text = text; runs = asked.1 })
