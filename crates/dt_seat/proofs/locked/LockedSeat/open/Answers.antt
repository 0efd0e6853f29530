-- What is to be shown of `open`.
use Rattle.std.proofs.Common.{rules, ◌≡◌, ◌+◌, ℕ, [], ◌∷◌, ◌++◌, Some, None, List, length, refl, ap, sym, ◌∙◌, subst}
use Rattle.atomic_table.specs.Seated.{TableId}
use Rattle.dt_cred.specs.declared.account.Account.{Account}
use Rattle.dt_facts.specs.Facts.{life_fact, lists_in}
use Rattle.dt_facts.specs.Handles.{HeldFact, begun, holding}
use Rattle.dt_facts.specs.Lives.{opened}
use Rattle.dt_seat.specs.Knowledge.{steps_in}
use Rattle.dt_seat.specs.Publications.{IsPublished}
use Rattle.dt_seat.specs.Names.{life_name}
use Rattle.dt_seat.specs.Seats.{Seated}
use Rattle.dt_seat.proofs.Openings.{first_note, notebook_opened, nothing_published, notes_dealt, seat_open, seat_says, session_opened, unmapped}
use Rattle.dt_seat.proofs.Writing.{writes_opened}
use Rattle.dt_seat.specs.Written.{writes_in}
use Rattle.dt_seat.proofs.locked.LockedSeat.open.Goals as goal
use Rattle.dt_machine.specs.Registry.{Contents}
use Rattle.dt_trail.specs.Items.{TrailItem}
use Rattle.dt_trail.specs.Known.{AreNew, Known}

pub invariant_of-result : goal.invariant_of-result
invariant_of-result g c =
    let word = g.J.HubSite.word in
    let contents = g.J.Traced.contents in
    let inside = c.self.inside in
    let owner = c.in_ok-owner.owner in
    let none : inside.present ≡ None = unmapped _ inside.present (ap (λ (x : Seated). x.trail) c.self.view_is ∙ c.requires.free) in
    let free = rw none at c.self.invariant.0 in
    let idle_is : inside.free ≡ Some c.in-Some.field-0 = sym c.take.ensures.value ∙ c.in-Some.is in
    let idle = rw idle_is at free.idle in
    let fact = life_fact (steps_in c.in-Some.field-0.share.fact ++ opened owner.row ∷ []) in
    let book : c.go_on_apart.new.book ≡ holding word (life_name contents.registry.cpus inside.number) fact =
    c.go_on_apart.ensures.book
    ∙ ap (λ (w : TableId). holding w inside.lives.name fact) c.requires.facts
    ∙ ap (λ (h : HeldFact). holding word h.name fact) free.lives_are in
    let mine = c.go_on_apart.ensures.share ∙ sym c.go_on_apart.ensures.book in
    let first = first_note owner.row _ _ _ c.in_ok-owner.ensures.notes c.hand_out-note.ensures.first in
    let all : c.begin.result ≡ begun word (life_name contents.registry.cpus inside.number) (lists_in c.go_on_apart.new.book.fact) =
    c.begin.ensures.beginning
    ∙ ap (λ (w : TableId). begun w c.go_on_apart.new.book.name (lists_in c.go_on_apart.new.book.fact)) c.requires.facts
    ∙ ap (λ (h : HeldFact). begun word h.name (lists_in c.go_on_apart.new.book.fact)) book in (
      session_opened word contents inside.number inside.life inside.lives inside.free inside.keeps.items free c.in-Some.field-0 idle owner.row
          c.go_on_apart.new.book c.go_on_apart.new.share book mine c.args.account.now c.begin.result c.hand_out-note.result all
          c.in_ok-owner.ensures.account first,
      notebook_opened contents inside.number inside.life owner.row c.hand_out-note.result c.new-2.result.items first
          c.new-2.ensures.items,
    )

pub invariant_of-self : goal.invariant_of-self
invariant_of-self g c =
    let word = g.J.HubSite.word in
    let contents = g.J.Traced.contents in
    let inside = c.self.inside in
    let owner = c.in_ok-owner.owner in
    let none : inside.present ≡ None = unmapped _ inside.present (ap (λ (x : Seated). x.trail) c.self.view_is ∙ c.requires.free) in
    let wrote = rw none at c.self.invariant.1 in
    let free = rw none at c.self.invariant.0 in
    let idle_is : inside.free ≡ Some c.in-Some.field-0 = sym c.take.ensures.value ∙ c.in-Some.is in
    let idle = rw idle_is at free.idle in
    let fact = life_fact (steps_in c.in-Some.field-0.share.fact ++ opened owner.row ∷ []) in
    let book : c.go_on_apart.new.book ≡ holding word (life_name contents.registry.cpus inside.number) fact =
    c.go_on_apart.ensures.book
    ∙ ap (λ (w : TableId). holding w inside.lives.name fact) c.requires.facts
    ∙ ap (λ (h : HeldFact). holding word h.name fact) free.lives_are in
    let mine = c.go_on_apart.ensures.share ∙ sym c.go_on_apart.ensures.book in
    let left = c.hand_out-note.new.keeps in
    let many : length left.items ≡ length inside.keeps.items = sym left.ok.0 ∙ c.hand_out-note.ensures.many ∙ inside.keeps.ok.0 in
    let notes = c.in_ok-owner.notes.items in
    let cpus : c.from.result ≡ contents.registry.cpus = c.from.ensures ∙ c.cpus-cpus.ensures.value ∙ ap (λ (m : Contents). m.registry.cpus) c.requires.machine in
    let new : AreNew owner.row (contents.registry.cpus + 1) notes =
    subst (λ (n : ℕ). AreNew owner.row (n + 1) notes) cpus c.in_ok-owner.ensures.notes in
    let empty : owner.knows ≡ [] = ap (λ (k : Known Account). k.knows) c.in_ok-owner.ensures.owner in
    let dealt = notes_dealt word contents inside.number inside.life inside.lives inside.free inside.keeps.items free c.in-Some.field-0 idle owner.row
    c.go_on_apart.new.book c.go_on_apart.new.share book mine notes new left.items c.hand_out-note.ensures.each in (
      (
        record {
          few = free.few;
          many = many ∙ free.many;
          lives_are = rw c.begin.ensures.same (seat_says word contents inside.number inside.life inside.lives inside.free inside.keeps.items free
              c.in-Some.field-0 idle owner.row c.go_on_apart.new.book c.go_on_apart.new.share book mine);
          is_open = rw c.begin.ensures.same (seat_open word contents inside.number inside.life inside.lives inside.free inside.keeps.items free
              c.in-Some.field-0 idle owner.row c.go_on_apart.new.book c.go_on_apart.new.share book mine);
          trailed = search rules;
          each = λ cpu. rw empty (dealt cpu);
        },
        search rules,
      ),
      record {
        says = wrote.says;
        are = writes_opened contents c.args.account.now inside.life owner.knows (writes_in inside.writes.fact) wrote.later;
      },
      record {
        there = subst (λ (l : List TrailItem). IsPublished contents inside.number inside.life c.args.account.now l []) (sym empty)
            (nothing_published contents inside.number inside.life c.args.account.now);
        begins = (writes_in inside.writes.fact, refl);
      },
    )
