-- What is to be shown of `alone`.
use Rattle.std.proofs.Common.{◌≡◌, ◌+◌, ◌<◌, [], ◌∷◌, ◌++◌, cond, length, take, map, refl, sym, ap, ◌∙◌, subst, arith}
use Rattle.std.proofs.lemmas.List.{map_push, map-append}
use Rattle.dt_life.specs.Acceptance.{after_line}
use Rattle.dt_life.specs.Life.{fired}
use Rattle.dt_proto.specs.Alone.{own_line, firing_made}
use Rattle.dt_proto.specs.Line.{ask_in}
use Rattle.dt_proto.specs.Reply.{reply_text}
use Rattle.dt_proto.specs.Asked.{form_asked}
use Rattle.dt_alone.specs.Answered.{AnswersAsk}
use Rattle.dt_alone.specs.Items.{form_of_item, view_of}
use Rattle.dt_alone.proofs.SoFar.{so_far_more, after_offer}
use Rattle.dt_alone.proofs.replies.alone.Goals as goal
use Rattle.dt_alone.proofs.replies.alone.Goals.{in-Line+in_ok-answer-in-Line+in_ok-push-in-Line}
use Rattle.dt_alone.proofs.replies.alone.Goals.{in-Firing+in_ok-offer-in-Firing}

pub loop-item-init : goal.loop-item-init
loop-item-init c = record {
  life = [];
  lives = refl;
  runs = c.new-runner.ensures c.args.machine.now.registry;
  answers = [];
  alone = refl;
  written = ap (map (λ reply. reply.items)) c.new-replies.ensures.items;
}

pub loop-item-preserved : goal.loop-item-preserved
loop-item-preserved c =
    let items = c.args.items.now in
    let here = c.loop-item.item-index in
    let before = c.loop-item.invariant in
    let within : here < length items = omega arith in
    let more = so_far_more form_of_item items here c.item-item.result within in
    elim c.match-item.branch [
      | in-Line+in_ok-answer-in-Line+in_ok-push-in-Line w ↦
          let line = form_asked w.in-Line.asked in
          let view : view_of (take (here + 1) items) ≡ own_line line ∷ view_of (take here items) = more
          ∙ ap (λ item. form_of_item item ∷ view_of (take here items)) (sym c.item-item.is ∙ w.in-Line.is) in
          let bytes = w.in_ok-answer-in-Line.field-0 in
          let answered = subst
          (λ form. AnswersAsk c.args.account.now c.args.machine.now.registry before.life (ask_in form)
          w.answer.new.runner bytes.items)
          w.lent.ensures (w.in_ok-answer-in-Line.ensures c.args.account.now before.life before.runs) in
          let replies : c.match-item.replies.items ≡ c.loop-item.replies.items ++ bytes ∷ [] =
          ap (λ replies. replies.items) w.replies-is ∙ w.in_ok-push-in-Line.ensures.items in
          record {
            life = after_line before.life (ask_in line);
            lives = rw view (before.life, before.lives, refl);
            runs = rw w.runner-is answered.runs;
            answers = before.answers ++ answered.answer ∷ [];
            alone = rw view (
              before.answers,
              answered.answer,
              before.alone,
              (
                before.life,
                before.lives,
                answered.replies,
              ),
              refl,
            );
            written = ap (map (λ reply. reply.items)) replies
                ∙ map_push (λ reply. reply.items) c.loop-item.replies.items bytes
                ∙ ap (λ front. front ++ bytes.items ∷ []) before.written
                ∙ ap (λ last. map reply_text before.answers ++ last ∷ []) answered.text
                ∙ sym (map-append reply_text before.answers (answered.answer ∷ []));
          }
      | in-Firing+in_ok-offer-in-Firing w ↦
          let firing = w.in-Firing.firing in
          let seen = w.in_ok-offer-in-Firing.field-0 in
          let view : view_of (take (here + 1) items) ≡ firing_made firing ∷ view_of (take here items) = more
          ∙ ap (λ item. form_of_item item ∷ view_of (take here items)) (sym c.item-item.is ∙ w.in-Firing.is) in
          record {
            life = cond seen (fired firing ∷ before.life) before.life;
            lives = rw view (
              before.life,
              before.lives,
              after_offer c.args.account.now c.args.machine.now.registry before.life firing seen
                  (w.in_ok-offer-in-Firing.ensures.sees c.args.account.now before.life before.runs),
            );
            runs = rw w.runner-is (w.in_ok-offer-in-Firing.ensures.after c.args.account.now before.life before.runs);
            answers = before.answers;
            alone = rw view before.alone;
            written = ap (λ replies. map (λ reply. reply.items) replies.items) w.replies-is ∙ before.written;
          }
    ]
