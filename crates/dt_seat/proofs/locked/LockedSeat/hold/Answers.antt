-- What is to be shown of `hold`.
use Rattle.std.proofs.Common.{rules, ◌≡◌, ◌<◌, ℕ, List, Some, ap, ◌∙◌, subst, sym, arith}
use mathlib.Core.List.{IsPrefix}
use Rattle.dt_chain.specs.Seats.{life_at}
use Rattle.dt_cred.specs.declared.account.Account.{Account}
use Rattle.dt_facts.specs.Facts.{HaveGrown, lists_in}
use Rattle.dt_facts.specs.Handles.{BegunLists}
use Rattle.dt_facts.specs.Lives.{lives_over}
use Rattle.dt_facts.specs.declared.fact.LifeStep.{LifeStep}
use Rattle.dt_facts.specs.laws.Beginnings.{prefix_trans}
use Rattle.dt_legal.specs.Rows.{IsLegalRow}
use Rattle.dt_seat.proofs.Holds.{held_gone, tracked_held}
use Rattle.dt_seat.proofs.Published.{publication_known, still_there}
use Rattle.dt_seat.proofs.Seats.{seat_over, stays_on_self}
use Rattle.dt_seat.proofs.Writing.{has_written_on}
use Rattle.dt_seat.proofs.locked.LockedSeat.hold.Goals as goal
use Rattle.dt_seat.specs.Keeps.{Followed, with_lives}
use Rattle.dt_seat.specs.Knowledge.{steps_in}
use Rattle.dt_seat.specs.Publications.{IsPublished, writes_seen}
use Rattle.dt_seat.specs.Written.{HasWritten, writes_in}

pub returns-then-life-self-clause-trail : goal.returns-then-life-self-clause-trail
returns-then-life-self-clause-trail g c = rw (← c.self.view_is) (stays_on_self c.self.inside.present)

-- The life is over: the seat is at a later one.
pub returns-then-life-self-clause-tracked : goal.returns-then-life-self-clause-tracked
returns-then-life-self-clause-tracked g c = λ knew places tracked.
    let contents = g.J.Traced.contents in
    let inside = c.self.inside in
    let old = c.args.follower.now in
    let seen_known : IsPrefix c.args.reader.now.seen c.args.reader.now.told = rw c.told-known.ensures.told at c.told-known.ensures.seen in
    let grown : HaveGrown c.follower.inside.lives.lists (lists_in inside.lives.fact) = c.catch_up.ensures.begins in
    let all = ap (λ (b : BegunLists). b.lists.lives) c.catch_up.ensures.beginning in
    let lives = c.catch_up.new.beginning.lists.lives in
    let known : c.follower.inside.lives.lists.lives ≡ old.lives = ap (λ (f : Followed). f.lives) c.follower.view_is in
    let begins = subst (λ (l : List LifeStep). IsPrefix old.lives l) (sym all) (subst (λ (l : List LifeStep). IsPrefix l (steps_in inside.lives.fact)) known grown.2) in
    let over : c.args.life < lives_over lives =
    let ended = ap lives_over all ∙ seat_over g.J.HubSite.word contents inside.number inside.life inside.present inside.lives inside.free inside.keeps.items
    c.self.invariant.0 in
    let below = c.if-life-self.true in omega (arith, ended, below) in
    let named = subst (λ (n : ℕ). life_at c.requires.named.0 n ≡ Some c.args.life) (sym c.requires.follower.0) c.requires.named.2 in
    held_gone contents c.args.reader.now.seen c.args.reader.now.told c.args.context.now.firing.now c.requires.named.0 knew old _ c.args.life c.requires.script
    c.requires.follower.1 c.requires.named.1 named places seen_known tracked (ap (λ (f : Followed). with_lives f lives) c.follower.view_is) begins over
    c.is_right.ensures.orderly

pub returns-then-life-self-clause-published : goal.returns-then-life-self-clause-published
returns-then-life-self-clause-published g c = λ note has.
    let inside = c.self.inside in
    let all = ap (λ (b : BegunLists). b.lists.lives) c.catch_up.ensures.beginning in
    let ended = ap lives_over all ∙ seat_over g.J.HubSite.word g.J.Traced.contents inside.number inside.life inside.present inside.lives inside.free
    inside.keeps.items c.self.invariant.0 in
    let below = c.if-life-self.true in
    let here : lives_over c.catch_up.new.beginning.lists.lives ≡ c.args.life = has.over_is in
    absurd (omega (arith, ended, below, here))

pub hold_at-held-requires-clause-taken : goal.hold_at-held-requires-clause-taken
hold_at-held-requires-clause-taken g c =
    let inside = c.self-2.inside in
    let seat_is : c.args.follower.now.seat ≡ inside.number = search rules in
    let life_is : c.args.life ≡ inside.life = search rules in
    let present_is : inside.present ≡ Some c.in-Some.present = c.in-Some.is in
    rw (seat_is, life_is) (rw present_is at c.self-2.invariant.0).0

-- A life goes on with the firing that was offered, and what its seat wrote stays.
pub invariant_of-self-2 : goal.invariant_of-self-2
invariant_of-self-2 g c =
    let word = g.J.HubSite.word in
    let contents = g.J.Traced.contents in
    let inside = c.self-2.inside in
    let made = c.hold_at-held.ensures in
    let new = c.hold_at-held.new.present in
    let present_is : inside.present ≡ Some c.in-Some.present = c.in-Some.is in
    let taken = rw present_is at c.self-2.invariant.0 in
    let wrote = rw present_is at c.self-2.invariant.1 in
    let published = rw present_is at c.self-2.invariant.2 in
    let legal = subst (λ (a : Account). IsLegalRow a contents new.owner.knows) made.same.0 made.taken.trailed.legal in
    let on = has_written_on word contents inside.number inside.life c.in-Some.present.account c.in-Some.present.owner.knows new.owner.knows inside.writes
    made.trail.longer legal wrote in
    let seat_is : c.args.follower.now.seat ≡ inside.number = search rules in
    let life_is : c.args.life ≡ inside.life = search rules in (
      (rw (seat_is, life_is) at made.taken, taken.1),
      subst (λ (a : Account). HasWritten word contents inside.number inside.life a new.owner.knows inside.writes) (sym made.same.0) on,
      rw (made.same.0, made.same.1) (record {
        there = rw made.kept (still_there contents inside.number inside.life c.in-Some.present.account c.in-Some.present.owner.knows
            (writes_seen c.in-Some.present.front) c.hold_at-held.result c.args.context.now.firing.now published.there);
        begins = published.begins;
      }),
    )

pub returns-clause-tracked : goal.returns-clause-tracked
returns-clause-tracked g c = λ knew places tracked.
    let contents = g.J.Traced.contents in
    let inside = c.self-2.inside in
    let old = c.args.follower.now in
    let made = c.hold_at-held.ensures in
    let present = c.in-Some.present in
    let seen_known : IsPrefix c.args.reader.now.seen c.args.reader.now.told = rw c.told-known.ensures.told at c.told-known.ensures.seen in
    let present_is : inside.present ≡ Some present = c.in-Some.is in
    let taken = (rw present_is at c.self-2.invariant.0).0 in
    let wrote = rw present_is at c.self-2.invariant.1 in
    let published = rw present_is at c.self-2.invariant.2 in
    let seat_is : inside.number ≡ old.seat = search rules in
    let life_is : inside.life ≡ c.args.life = search rules in
    let named = subst (λ (n : ℕ). life_at c.requires.named.0 n ≡ Some c.args.life) (sym c.requires.follower.0) c.requires.named.2 in
    let legal = subst (λ (a : Account). IsLegalRow a contents c.hold_at-held.new.present.owner.knows) made.same.0 made.taken.trailed.legal in
    tracked_held contents c.args.reader.now.seen c.hear.new.reader.told c.args.context.now.firing.now c.requires.named.0 knew old
    c.hold_at-held.new.follower c.args.life c.requires.script c.requires.follower.1 c.requires.named.1 named places
    (prefix_trans _ _ _ seen_known c.hear.ensures.kept) tracked present.account present.owner.row present.owner.knows
    c.hold_at-held.new.present.owner.knows made.took taken.trailed.whose_is made.whole legal c.is_right-2.ensures.orderly c.is_right-2.ensures.row
    (writes_seen c.hold_at-held.new.present.front) c.hear.ensures.told c.hear.ensures.order (writes_in inside.writes.fact)
    (rw made.same.1 (rw (seat_is, life_is) at published)) (rw life_is at wrote.are.in_order) c.hold_at-held.result made.kept made.held made.own

pub returns-clause-published : goal.returns-clause-published
returns-clause-published g c = λ note has.
    let contents = g.J.Traced.contents in
    let inside = c.self-2.inside in
    let made = c.hold_at-held.ensures in
    let present = c.in-Some.present in
    let present_is : inside.present ≡ Some present = c.in-Some.is in
    let taken = (rw present_is at c.self-2.invariant.0).0 in
    let published = rw present_is at c.self-2.invariant.2 in
    let seat_is : inside.number ≡ c.args.follower.now.seat = search rules in
    let life_is : inside.life ≡ c.args.life = search rules in
    let go = writes_seen c.hold_at-held.new.present.front in
    let there : IsPublished contents c.args.follower.now.seat c.args.life present.account present.owner.knows go =
    rw made.same.1 (rw (seat_is, life_is) at published.there) in
    publication_known contents c.args.context.now.firing.now c.args.life c.hold_at-held.result c.args.follower.now c.hold_at-held.new.follower present.account
    present.owner.row present.owner.knows c.hold_at-held.new.present.owner.knows go c.hear.new.reader.told made.held made.took taken.trailed.whose_is made.whole
    made.kept c.hear.ensures.told there note has

pub returns-clause-trail : goal.returns-clause-trail
returns-clause-trail g c =
    let trail : c.args.self.now.trail ≡ Some c.in-Some.present.owner = search rules in
    rw trail c.hold_at-held.ensures.trail
