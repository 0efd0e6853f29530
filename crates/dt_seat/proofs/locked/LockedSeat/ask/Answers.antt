-- What is to be shown of `ask`.
use Rattle.std.proofs.Common.{◌≡◌, Some, ap, sym, ◌∙◌, subst}
use Rattle.dt_cred.specs.declared.account.Account.{Account}
use Rattle.dt_seat.specs.Written.{AreWritesOf, writes_in}
use Rattle.dt_seat.specs.Seats.{Seated}
use Rattle.dt_seat.specs.Sessions.{Sat}
use Rattle.dt_seat.specs.Trailed.{item_of_line}
use Rattle.dt_seat.proofs.Seats.{taken_answered}
use Rattle.dt_seat.proofs.Sitting.{one_life, session_goes_on}
use Rattle.dt_seat.proofs.Trails.{line_is_mine}
use Rattle.dt_seat.proofs.locked.LockedSeat.ask.Goals as goal

same_seat : {s t : Sat} {x y : Seated} → s ≡ t → t.seat ≡ y.number → x ≡ y → s.seat ≡ x.number
same_seat a b c = ap (λ (z : Sat). z.seat) a ∙ b ∙ ap (λ (z : Seated). z.number) (sym c)

-- The session's life is the seat's, of which it is open, so what it wrote down is of that.
pub ask_at-result-requires-clause-notebook : goal.ask_at-result-requires-clause-notebook
ask_at-result-requires-clause-notebook g c =
    let inside = c.self.inside in
    let s = c.session.inside in
    let h = c.session.invariant in
    let present_is : inside.present ≡ Some c.in-Some.present = c.in-Some.is in
    let taken = (rw present_is at c.self.invariant.0).0 in
    let life_is = one_life inside.lives.fact s.share.fact inside.life s.life _ _ c.agree.ensures.agree taken.is_open h.0.is_open in
    let seat_is = same_seat c.session.view_is c.requires.seat c.self.view_is in
    rw (sym seat_is, sym life_is) h.1

pub invariant_of-session : goal.invariant_of-session
invariant_of-session g c =
    let inside = c.self.inside in
    let s = c.session.inside in
    let h = c.session.invariant in
    let made = c.ask_at-result.ensures in
    let present_is : inside.present ≡ Some c.in-Some.present = c.in-Some.is in
    let taken = (rw present_is at c.self.invariant.0).0 in
    let life_is = one_life inside.lives.fact s.share.fact inside.life s.life _ _ c.agree.ensures.agree taken.is_open h.0.is_open in
    let seat_is = same_seat c.session.view_is c.requires.seat c.self.view_is in (
      rw (c.go_on.ensures, c.agree.ensures.share)
          (session_goes_on _ _ _ _ _ _ _ _ s.notebook.note c.ask_at-result.new.notebook.note h.0 made.note.0 made.note.1),
      rw (seat_is, life_is) made.notebook,
    )

pub invariant_of-self : goal.invariant_of-self
invariant_of-self g c =
    let inside = c.self.inside in
    let made = c.ask_at-result.ensures in
    let present_is : inside.present ≡ Some c.in-Some.present = c.in-Some.is in
    let taken = rw present_is at c.self.invariant.0 in (
      (
        rw c.agree.ensures.book
            (taken_answered g.J.HubSite.word g.J.Traced.contents inside.number inside.life inside.lives c.in-Some.present inside.keeps.items taken.0
            c.ask_at-result.result (item_of_line c.args.asked.now) c.ask_at-result.new.present (line_is_mine c.args.asked.now) made.trail
            made.appended made.unchanged made.trailed),
        taken.1,
      ),
      made.written,
      made.published,
    )

pub ask_at-result-requires-clause-written : goal.ask_at-result-requires-clause-written
ask_at-result-requires-clause-written g c =
    let present_is : c.self.inside.present ≡ Some c.in-Some.present = c.in-Some.is in
    rw present_is at c.self.invariant.1

pub returns-clause-writes : goal.returns-clause-writes
returns-clause-writes g c =
    let made = c.ask_at-result.ensures in
    let new = c.ask_at-result.new in
    subst (λ (a : Account). AreWritesOf g.J.Traced.contents a c.self.inside.life new.present.owner.knows (writes_in new.writes.fact))
    (sym made.trailed.whose_is) made.written.are

pub returns-clause-published : goal.returns-clause-published
returns-clause-published g c =
    let inside = c.self.inside in
    let s = c.session.inside in
    let h = c.session.invariant in
    let present_is : inside.present ≡ Some c.in-Some.present = c.in-Some.is in
    let taken = (rw present_is at c.self.invariant.0).0 in
    let life_is = one_life inside.lives.fact s.share.fact inside.life s.life _ _ c.agree.ensures.agree taken.is_open h.0.is_open in
    let seat_is = same_seat c.session.view_is c.requires.seat c.self.view_is in
    rw (seat_is, life_is) c.ask_at-result.ensures.notebook.published

pub ask_at-result-requires-clause-published : goal.ask_at-result-requires-clause-published
ask_at-result-requires-clause-published g c =
    let present_is : c.self.inside.present ≡ Some c.in-Some.present = c.in-Some.is in
    rw present_is at c.self.invariant.2
