-- A firing is taken, and offered to each seat that the look named.
use Rattle.std.proofs.Common.{◌≡◌, ◌<◌, ◌++◌, ◌∷◌, [], length, append_assoc, sym, ap, ◌∙◌, subst, arith, rules}
use Rattle.std.proofs.lemmas.List.{append-nil}
use Rattle.dt_chain.specs.declared.seat.TheConstants.{SEATS}
use Rattle.dt_world.specs.Progress.{IsAfter, with_world}
use Rattle.dt_world.specs.Replay.{after_step_line, seats_due}
use Rattle.dt_world.specs.StepLine.{look_line}
use Rattle.dt_world.proofs.Offers.{in_order, order_first, order_none, order_due, offered_to, one_more_offer, fired_all}
use Rattle.dt_world.proofs.progress.Progress.fire.Goals as goal

pub loop-seat-init : goal.loop-seat-init
loop-seat-init c = λ wanted now before.
    let answer = c.in-Some.ensures.answer wanted now before in (
      [],
      order_due c.args.machine.now now c.args.cpu answer.0 c.in-Some.left answer.1 answer.2,
      c.in-Some.ensures.after wanted now before,
    )

pub loop-seat-smaller : goal.loop-seat-smaller
loop-seat-smaller c =
    let seat = c.in-Some-first.seat in
    let low : seat < SEATS = search rules in
    let first =
    order_first c.loop-seat.left c.remove.new.self seat low c.in-Some-first.ensures.0
    c.in-Some-first.ensures.1 c.remove.ensures in
    let shorter : length (in_order c.remove.new.self) < length (in_order c.loop-seat.left) =
    omega (arith, ap length first) in
    shorter

pub loop-seat-preserved : goal.loop-seat-preserved
loop-seat-preserved c = λ wanted now before.
    let contents = c.args.machine.now in
    let cpu = c.args.cpu in
    let seat = c.in-Some-first.seat in
    let so = c.loop-seat.invariant wanted now before in
    let low : seat < SEATS = search rules in
    let first =
    order_first c.loop-seat.left c.remove.new.self seat low c.in-Some-first.ensures.0
    c.in-Some-first.ensures.1 c.remove.ensures in
    let stood = offered_to contents now cpu so.0 in (
      so.0 ++ seat ∷ [],
      append_assoc so.0 (seat ∷ []) (in_order c.remove.new.self) ∙ ap (λ rest. so.0 ++ rest) (sym first) ∙ so.1,
      subst (λ at. IsAfter wanted contents at c.offer.new.self)
          (sym (ap (with_world stood) (one_more_offer contents now cpu so.0 seat)))
          (c.in_ok-offer.ensures wanted stood so.2),
    )

pub returns : goal.returns
returns c = λ wanted now before.
    let contents = c.args.machine.now in
    let cpu = c.args.cpu in
    let answer = c.in-Some.ensures.answer wanted now before in
    let so = c.loop-seat.invariant wanted now before in
    let none = order_none c.loop-seat.left c.in_default-first.ensures in
    let all : so.0 ≡ seats_due (after_step_line contents now (look_line cpu)).world cpu =
    sym (append-nil so.0) ∙ ap (λ rest. so.0 ++ rest) (sym none) ∙ so.1 in
    subst (λ at. IsAfter wanted contents at c.loop-seat.self) (sym (fired_all contents now cpu answer.0 answer.1))
    (subst (λ seats. IsAfter wanted contents (offered_to contents now cpu seats) c.loop-seat.self) all so.2)
