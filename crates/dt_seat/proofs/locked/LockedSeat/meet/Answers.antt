-- What is to be shown of `meet`.
use Rattle.std.proofs.Common.{◌≡◌, ℕ, List, Option, Some, ap, sym, ◌∙◌, subst}
use mathlib.Core.List.{IsPrefix}
use Rattle.dt_chain.specs.Writes.{Write, writes_of}
use Rattle.dt_cred.specs.declared.account.Account.{Account}
use Rattle.dt_facts.specs.Lives.{IsRowOfLife, lives_over}
use Rattle.dt_facts.specs.declared.fact.LastNote.{LastNote}
use Rattle.dt_facts.specs.declared.fact.LifeStep.{LifeStep}
use Rattle.dt_facts.specs.laws.Beginnings.{prefix_trans}
use Rattle.dt_facts.specs.laws.Lives.{over_open}
use Rattle.dt_legal.specs.Rows.{IsLegalRow}
use Rattle.dt_meeting.specs.Order.{IsInOrder}
use Rattle.dt_meeting.specs.Sharing.{IsShared}
use Rattle.dt_seat.proofs.Known.{by_note}
use Rattle.dt_seat.proofs.Meets.{meets_shared, meets_tracked}
use Rattle.dt_seat.proofs.Offering.{goes_on_self}
use Rattle.dt_seat.proofs.Seats.{grows_met}
use Rattle.dt_seat.proofs.Sitting.{notebook_goes_on, one_life, one_owner, session_goes_on}
use Rattle.dt_seat.proofs.locked.LockedSeat.meet.Goals as goal
use Rattle.dt_seat.specs.Keeps.{known_by, known_in, known_of, noted_of}
use Rattle.dt_seat.specs.Knowledge.{steps_in}
use Rattle.dt_seat.specs.Publications.{IsPublished, writes_seen}
use Rattle.dt_seat.specs.Seats.{Seated, TrailGoesOn}
use Rattle.dt_seat.specs.Sessions.{Sat}
use Rattle.dt_seat.specs.Written.{writes_in}
use Rattle.dt_seat.specs.laws.Notes.{noted_here}
use Rattle.dt_trail.specs.Items.{TrailItem}
use Rattle.dt_trail.specs.Known.{Grows, Known, Noted}
use Rattle.dt_trail.specs.declared.law.Named.{Named}

pub invariant_of-session : goal.invariant_of-session
invariant_of-session g c =
    let h = c.session.invariant in
    let note = c.session.inside.notebook.note in
    let made = c.meet_at.ensures in
    let grows : Grows note c.meet_at.new.note = subst (λ (n : Noted Account). Grows note n) (sym made.session) (grows_met note c.in-Some.present.owner.knows made.met) in (
      rw (c.go_on.ensures, c.agree.ensures.share)
          (session_goes_on _ _ _ _ _ _ _ _ note c.meet_at.new.note h.0 grows.row grows.longer),
      notebook_goes_on _ _ _ note c.meet_at.new.note _ _ h.1 grows,
    )

pub returns-clause-own_go : goal.returns-clause-own_go
returns-clause-own_go g c =
    let note = c.session.inside.notebook.note in
    let grows : Grows note c.meet_at.new.note =
    subst (λ (n : Noted Account). Grows note n) (sym c.meet_at.ensures.session) (grows_met note c.in-Some.present.owner.knows c.meet_at.ensures.met) in
    (notebook_goes_on _ _ _ note c.meet_at.new.note _ _ c.session.invariant.1 grows).published

pub returns-clause-reader : goal.returns-clause-reader
returns-clause-reader g c =
    let mine = ap (λ (s : Sat). s.published) c.session.view_is in (
      c.hear-2.ensures.seen ∙ c.hear.ensures.seen,
      prefix_trans _ _ _ c.hear.ensures.kept c.hear-2.ensures.kept,
      subst (λ (w : List Write). IsPrefix w c.hear-2.new.reader.told) mine c.hear-2.ensures.told,
    )

pub returns-clause-trail : goal.returns-clause-trail
returns-clause-trail g c =
    let present_is : c.self.inside.present ≡ Some c.in-Some.present = c.in-Some.is in
    let owner = c.meet_at.ensures.same.1 in (
      rw (← c.self.view_is, present_is)
          (subst (λ (o : Known Account). TrailGoesOn c.in-Some.present.owner o) (sym owner) (goes_on_self c.in-Some.present.owner)),
      ap (λ (o : Known Account). o.knows) owner ∙ sym (ap (λ (n : Noted Account). n.knows) c.meet_at.ensures.session),
    )

pub returns-clause-over : goal.returns-clause-over
returns-clause-over g c =
    let inside = c.self.inside in
    let s = c.session.inside in
    let present_is : inside.present ≡ Some c.in-Some.present = c.in-Some.is in
    let taken = (rw present_is at c.self.invariant.0).0 in
    let life_is : s.life ≡ inside.life =
    one_life inside.lives.fact s.share.fact inside.life s.life _ _ c.agree.ensures.agree taken.is_open c.session.invariant.0.is_open in
    let steps : c.meet_at.new.follower.lives ≡ steps_in inside.lives.fact = rw c.agree.ensures.book at c.meet_at.ensures.lives_known in
    let now : c.args.session.now.life ≡ inside.life = sym (ap (λ (x : Sat). x.life) c.session.view_is) ∙ life_is in
    ap lives_over steps ∙ over_open (steps_in inside.lives.fact) inside.life c.in-Some.present.owner.row taken.is_open ∙ sym now

pub returns-clause-whose : goal.returns-clause-whose
returns-clause-whose g c =
    let inside = c.self.inside in
    let s = c.session.inside in
    let present = c.in-Some.present in
    let row = present.owner.row in
    let present_is : inside.present ≡ Some present = c.in-Some.is in
    let taken = (rw present_is at c.self.invariant.0).0 in
    let life_is : s.life ≡ inside.life =
    one_life inside.lives.fact s.share.fact inside.life s.life _ _ c.agree.ensures.agree taken.is_open c.session.invariant.0.is_open in
    let row_is : s.notebook.note.row ≡ row =
    one_owner inside.lives.fact s.share.fact inside.life s.life _ _ c.agree.ensures.agree taken.is_open c.session.invariant.0.is_open in
    let steps : c.meet_at.new.follower.lives ≡ steps_in inside.lives.fact = rw c.agree.ensures.book at c.meet_at.ensures.lives_known in
    let named = subst (λ (l : List LifeStep). IsRowOfLife inside.life row l) (sym steps) taken.is_open.1 in
    let now : c.args.session.now.life ≡ inside.life = sym (ap (λ (x : Sat). x.life) c.session.view_is) ∙ life_is in
    let mine : c.args.session.now.row ≡ row = sym (ap (λ (x : Sat). x.row) c.session.view_is) ∙ row_is in
    subst (λ (l : ℕ). IsRowOfLife l c.args.session.now.row c.meet_at.new.follower.lives) (sym now)
    (subst (λ (r : Named Account). IsRowOfLife inside.life r c.meet_at.new.follower.lives) (sym mine) named)

pub returns-clause-shared : goal.returns-clause-shared
returns-clause-shared g c = λ knew tracked.
    let contents = g.J.Traced.contents in
    let inside = c.self.inside in
    let s = c.session.inside in
    let old = c.args.follower.now in
    let new = c.meet_at.new.follower in
    let made = c.meet_at.ensures in
    let present = c.in-Some.present in
    let trail = present.owner.knows in
    let row = present.owner.row in
    let life = inside.life in
    let present_is : inside.present ≡ Some present = c.in-Some.is in
    let taken = (rw present_is at c.self.invariant.0).0 in
    let wrote = rw present_is at c.self.invariant.1 in
    let life_is : s.life ≡ life = one_life inside.lives.fact s.share.fact life s.life _ _ c.agree.ensures.agree taken.is_open c.session.invariant.0.is_open in
    let row_is : s.notebook.note.row ≡ row =
    one_owner inside.lives.fact s.share.fact life s.life _ _ c.agree.ensures.agree taken.is_open c.session.invariant.0.is_open in
    let seat_is : inside.number ≡ old.seat = ap (λ (x : Seated). x.number) c.self.view_is ∙ sym c.requires.follower.0 in
    let steps : new.lives ≡ steps_in inside.lives.fact = rw c.agree.ensures.book at made.lives_known in
    let named = subst (λ (l : List LifeStep). IsRowOfLife life row l) (sym steps) taken.is_open.1 in
    let over = ap lives_over steps ∙ over_open (steps_in inside.lives.fact) life row taken.is_open in
    let known : known_of life new ≡ trail =
    ap (λ (t : Option LastNote). known_in life t (known_by new.note) new.told) made.took ∙ by_note life row (known_by new.note) new.told ∙ made.known in
    let noted : noted_of life new ≡ trail = noted_here life row new.took (known_by new.note) made.took ∙ made.known in
    let legal = subst (λ (a : Account). IsLegalRow a contents trail) (sym taken.trailed.whose_is) taken.trailed.legal in
    let begins = subst (λ (n : ℕ). IsPrefix (writes_of c.args.reader.now.told n) (writes_in inside.writes.fact)) seat_is
    (rw c.told.ensures.told at c.among_own-2.ensures.begins) in
    let order = subst (λ (a : Account). IsInOrder a contents life (writes_in inside.writes.fact) trail) (sym taken.trailed.whose_is) wrote.are.in_order in
    let shared = meets_shared contents c.args.reader.now.told c.args.reader.now.told knew old new life row made.carried named over trail known noted made.begins
    made.own legal tracked (writes_in inside.writes.fact) begins order in
    let knows : c.meet_at.new.note.knows ≡ trail = ap (λ (n : Noted Account). n.knows) made.session in
    let mine : c.args.session.now.account ≡ row.account =
    sym (ap (λ (x : Sat). x.account) c.session.view_is) ∙ ap (λ (r : Named Account). r.account) row_is in
    let now : c.args.session.now.life ≡ life = sym (ap (λ (x : Sat). x.life) c.session.view_is) ∙ life_is in (
      shared.0,
      subst (λ (a : Account). IsShared a contents old.cpu c.meet_at.new.note.knows (knew c.args.session.now.life) shared.0) (sym mine)
          (subst (λ (t : List TrailItem). IsShared row.account contents old.cpu t (knew c.args.session.now.life) shared.0) (sym knows)
          (subst (λ (l : ℕ). IsShared row.account contents old.cpu trail (knew l) shared.0) (sym now) shared.1)),
    )

pub returns-clause-tracked : goal.returns-clause-tracked
returns-clause-tracked g c = λ knew tracked.
    let contents = g.J.Traced.contents in
    let inside = c.self.inside in
    let old = c.args.follower.now in
    let new = c.meet_at.new.follower in
    let made = c.meet_at.ensures in
    let present = c.in-Some.present in
    let trail = present.owner.knows in
    let row = present.owner.row in
    let life = inside.life in
    let present_is : inside.present ≡ Some present = c.in-Some.is in
    let taken = (rw present_is at c.self.invariant.0).0 in
    let published = rw present_is at c.self.invariant.2 in
    let seat_is : inside.number ≡ old.seat = ap (λ (x : Seated). x.number) c.self.view_is ∙ sym c.requires.follower.0 in
    let steps : new.lives ≡ steps_in inside.lives.fact = rw c.agree.ensures.book at made.lives_known in
    let named = subst (λ (l : List LifeStep). IsRowOfLife life row l) (sym steps) taken.is_open.1 in
    let over = ap lives_over steps ∙ over_open (steps_in inside.lives.fact) life row taken.is_open in
    let known : known_of life new ≡ trail =
    ap (λ (t : Option LastNote). known_in life t (known_by new.note) new.told) made.took ∙ by_note life row (known_by new.note) new.told ∙ made.known in
    let noted : noted_of life new ≡ trail = noted_here life row new.took (known_by new.note) made.took ∙ made.known in
    let legal = subst (λ (a : Account). IsLegalRow a contents trail) (sym taken.trailed.whose_is) taken.trailed.legal in
    let go = writes_seen c.meet_at.new.present.front in
    let kept = subst (λ (f : Option (List Write)). IsPublished contents inside.number life present.account trail (writes_seen f)) (sym made.same.2) published.there in
    let there = subst (λ (a : Account). IsPublished contents old.seat life a trail go) (sym taken.trailed.whose_is)
    (subst (λ (n : ℕ). IsPublished contents n life present.account trail go) seat_is kept) in
    meets_tracked contents c.args.reader.now.told c.hear-2.new.reader.told knew old new life row made.carried named over trail known noted made.begins made.own
    legal tracked go (prefix_trans _ _ _ c.hear.ensures.kept c.hear-2.ensures.kept) (prefix_trans _ _ _ c.hear.ensures.told c.hear-2.ensures.kept) there
    c.is_right.ensures.orderly
