-- What is to be shown of `close`.
use Rattle.std.proofs.Common.{◌≡◌, ◌+◌, ℕ, [], ◌∷◌, ◌++◌, Some, length, ap, sym, ◌∙◌, subst}
use Rattle.atomic_table.specs.Seated.{TableId}
use Rattle.dt_facts.specs.Facts.{life_fact}
use Rattle.dt_facts.specs.Handles.{HeldFact, holding}
use Rattle.dt_facts.specs.Lives.{closed}
use Rattle.dt_seat.specs.Knowledge.{steps_in}
use Rattle.dt_seat.specs.Names.{life_name}
use Rattle.dt_seat.specs.Seats.{Seated}
use Rattle.dt_seat.specs.Sessions.{IsSessionOn, Sat}
use Rattle.dt_seat.specs.Written.{writes_in}
use Rattle.dt_seat.proofs.Openings.{seat_closed}
use Rattle.dt_seat.proofs.Writing.{unnamed_withdrawn}
use Rattle.dt_seat.proofs.locked.LockedSeat.close.Goals as goal

pub invariant_of-self : goal.invariant_of-self
invariant_of-self g c =
    let word = g.J.HubSite.word in
    let contents = g.J.Traced.contents in
    let inside = c.self.inside in
    let s = c.session.inside in
    let present_is : inside.present ≡ Some c.in-Some.present = sym c.take.ensures.value ∙ c.in-Some.is in
    let taken = (rw present_is at c.self.invariant.0).0 in
    let seat_is : s.seat ≡ inside.number =
    ap (λ (x : Sat). x.seat) c.session.view_is ∙ c.requires.seat ∙ ap (λ (x : Seated). x.number) (sym c.self.view_is) in
    let sitting = subst (λ (n : ℕ). IsSessionOn word contents.registry.cpus n s.life s.account s.share s.lives s.known s.notebook.note) seat_is
    c.session.invariant.0 in
    let fact = life_fact (steps_in s.share.fact ++ closed ∷ []) in
    let book : c.go_on_apart.new.book ≡ holding word (life_name contents.registry.cpus inside.number) fact =
    c.go_on_apart.ensures.book
    ∙ ap (λ (w : TableId). holding w inside.lives.name fact) c.requires.facts
    ∙ ap (λ (h : HeldFact). holding word h.name fact) taken.lives_are in
    let mine = c.go_on_apart.ensures.share ∙ sym c.go_on_apart.ensures.book in
    let left = c.forget_notes.new.keeps in
    let many : length left.items ≡ length inside.keeps.items = sym left.ok.0 ∙ c.forget_notes.ensures.many ∙ inside.keeps.ok.0 in
    let wrote = rw present_is at c.self.invariant.1 in
    rw c.take.ensures.after (
      seat_closed word contents inside.number inside.life inside.lives c.in-Some.present inside.keeps.items taken s.life s.account s.share s.lives
          s.known s.notebook.note sitting c.go_on_apart.ensures.agree c.go_on_apart.new.book c.go_on_apart.new.share book mine left.items many
          c.forget_notes.ensures.each,
      record {
        says = c.withdraw.ensures.says;
        later = unnamed_withdrawn (inside.life + 1) inside.number (writes_in inside.writes.fact) (writes_in c.withdraw.new.writes.fact)
            c.withdraw.ensures.may wrote.are.later;
      },
      tt,
    )

pub withdraw-requires-clause-says : goal.withdraw-requires-clause-says
withdraw-requires-clause-says g c =
    let present_is : c.self.inside.present ≡ Some c.in-Some.present = sym c.take.ensures.value ∙ c.in-Some.is in
    (rw present_is at c.self.invariant.1).says
