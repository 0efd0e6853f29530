-- What is to be shown of `hold_at`.
use Rattle.std.proofs.Common.{◌≡◌, ◌+◌, ℕ, List, true, false, true≢false, length, refl, ap, sym, ◌∙◌, subst, append-nil}
use Rattle.dt_cred.specs.declared.account.Account.{Account}
use Rattle.dt_facts.specs.Lives.{IsRowOfLife, lives_over}
use Rattle.dt_facts.specs.declared.fact.LifeStep.{LifeStep}
use Rattle.dt_facts.specs.laws.Lives.{over_open}
use Rattle.dt_legal.specs.Rows.{IsLegalRow, life_of_row}
use Rattle.dt_life.specs.Sees.{Sees}
use Rattle.dt_seat.proofs.Offering.{goes_on_offered}
use Rattle.dt_seat.proofs.Seats.{taken_offered, held_kept, held_unseen, some_same}
use Rattle.dt_seat.proofs.Trails.{trailed_as, trailed_own}
use Rattle.dt_seat.proofs.present.hold_at.Goals as goal
use Rattle.dt_seat.proofs.present.hold_at.Goals.{then-is_seen, else-is_seen}
use Rattle.dt_seat.proofs.Owning.{own_kept, own_unseen}
use Rattle.dt_seat.specs.laws.Notes.{noted_here}
use Rattle.dt_seat.specs.Keeps.{Carries, Followed, known_by, known_of, noted_of, over_of}
use Rattle.dt_seat.specs.Knowledge.{steps_in}
use Rattle.dt_seat.specs.Trailed.{IsTrailed}
use Rattle.dt_trail.specs.Items.{own}
use Rattle.dt_trail.specs.Known.{Known, Noted, noted}
use Rattle.dt_trail.specs.declared.law.Named.{Named}

pub returns-clause-taken : goal.returns-clause-taken
returns-clause-taken g c =
    let seat = c.lend.ensures.carried.seat in
    let cpu = c.lend.ensures.carried.cpu ∙ c.requires.follower in
    let kept = trailed_as _ _ _ _ _ c.requires.taken.trailed.whose_is c.offer-is_seen.ensures.kept in
    let trailed = subst (λ (o : Known Account). IsTrailed g.J.Traced.contents c.args.present.now.account o c.offer-is_seen.new.consumer)
    c.offer-is_seen.ensures.trail kept in
    rw (c.lend.ensures.lives, c.offer-is_seen.ensures.trail)
    (taken_offered _ g.J.Traced.contents _ _ _ c.args.present.now c.args.keeps.now.items c.requires.taken
    c.args.context.now.firing.now c.offer-is_seen.result c.offer-is_seen.new.consumer c.lend.new.self trailed c.lend.ensures.lent
    (rw (seat, cpu) at c.lend.ensures.kept))

pub returns-clause-trail : goal.returns-clause-trail
returns-clause-trail g c =
    rw c.offer-is_seen.ensures.trail (goes_on_offered c.args.present.now.owner c.args.context.now.firing.now c.offer-is_seen.result)

pub returns-clause-held : goal.returns-clause-held
returns-clause-held g c =
    let contents = g.J.Traced.contents in
    let view = c.follower.view_is in
    let note : c.in-Some.note ≡ noted c.args.present.now.owner.row (c.args.follower.now.cpu + 1) (known_by c.lend.new.follower.note) =
    some_same _ _ (sym c.in-Some.is ∙ ap (λ (f : Followed). f.note) view ∙ c.lend.ensures.note) in
    let row : c.in-Some.note.row ≡ c.args.present.now.owner.row = ap (λ (n : Noted Account). n.row) note in
    let account : c.in-Some.note.row.account ≡ c.args.present.now.owner.row.account = ap (λ (r : Named Account). r.account) row in
    let mine : c.in-Some.note.number ≡ c.args.context.now.firing.now.cpu + 1 =
    ap (λ (n : Noted Account). n.number) note ∙ ap (λ (k : ℕ). k + 1) c.requires.follower in
    let took = ap (λ (f : Followed). f.took) view ∙ c.lend.ensures.took in
    let lives = ap (λ (f : Followed). f.lives) view ∙ c.lend.ensures.lives_known in
    let named = subst (λ (r : Named Account). IsRowOfLife c.args.life r c.follower.inside.lives.lists.lives) (sym row)
    (subst (λ (l : List LifeStep). IsRowOfLife c.args.life c.args.present.now.owner.row l) (sym lives) c.requires.taken.is_open.1) in
    let over = ap over_of view ∙ ap lives_over c.lend.ensures.lives_known
    ∙ over_open (steps_in c.args.lives.now.fact) c.args.life c.args.present.now.owner.row c.requires.taken.is_open in
    let known = ap (known_of c.args.life) view ∙ c.lend.ensures.known in
    let carried = subst (λ (f : Followed). Carries c.args.follower.now f c.args.life) (sym view) c.lend.ensures.carried in
    let legal = subst (λ (a : Account). IsLegalRow a contents c.args.present.now.owner.knows) (sym account)
    (trailed_own _ _ _ _ c.requires.taken.trailed).legal in
    elim c.if-is_seen.branch [
      | then-is_seen w ↦
          let last = rw w.if-is_seen.true at c.offer-is_seen.ensures.note in
          let sees = subst (λ (a : Account). Sees a contents.registry (life_of_row a contents c.args.present.now.owner.knows)
          c.args.context.now.firing.now) (sym account) (c.offer-is_seen.ensures.seen.0 w.if-is_seen.true) in
          rw (w.result-is, w.follower-inside-is, last)
          (held_kept contents c.args.life c.args.context.now.firing.now c.args.follower.now _ c.in-Some.note (rw (← row) at took) named c.in-Some.is
          over known carried c.args.present.now.owner.knows mine c.offer-is_seen.ensures.met legal sees)
      | else-is_seen w ↦
          let last = rw w.if-is_seen.false at c.offer-is_seen.ensures.note in
          let unseen = λ (sees : Sees c.in-Some.note.row.account contents.registry
          (life_of_row c.in-Some.note.row.account contents c.args.present.now.owner.knows) c.args.context.now.firing.now).
          let theirs = subst (λ (a : Account). Sees a contents.registry (life_of_row a contents c.args.present.now.owner.knows)
          c.args.context.now.firing.now) account sees in
          let bad : false ≡ true = sym w.if-is_seen.false ∙ c.offer-is_seen.ensures.seen.1 theirs in
          absurd (true≢false (sym bad)) in
          let count = sym (w.count.ensures ∙ ap (λ (n : Noted Account). length n.knows) last) in
          rw (w.result-is, w.follower-inside-is, last)
          (held_unseen contents c.args.life c.args.context.now.firing.now c.args.follower.now _ c.in-Some.note (rw (← row) at took) named c.in-Some.is
          over known carried c.args.present.now.owner.knows _ mine c.offer-is_seen.ensures.met legal unseen count)
    ]

pub returns-clause-own : goal.returns-clause-own
returns-clause-own g c =
    let firing = c.args.context.now.firing.now in
    let owner = c.args.present.now.owner in
    let view = c.follower.view_is in
    let note : c.in-Some.note ≡ noted owner.row (c.args.follower.now.cpu + 1) (known_by c.lend.new.follower.note) =
    some_same _ _ (sym c.in-Some.is ∙ ap (λ (f : Followed). f.note) view ∙ c.lend.ensures.note) in
    let mine : c.in-Some.note.number ≡ firing.cpu + 1 =
    ap (λ (n : Noted Account). n.number) note ∙ ap (λ (k : ℕ). k + 1) c.requires.follower in
    let took = ap (λ (f : Followed). f.took) view ∙ c.lend.ensures.took in
    let met : own (firing.cpu + 1) owner.knows ≡ own (firing.cpu + 1) c.in-Some.note.knows =
    subst (λ (n : ℕ). own n owner.knows ≡ own n c.in-Some.note.knows) mine c.offer-is_seen.ensures.met.1 in
    let lent : own (firing.cpu + 1) (known_by c.lend.new.follower.note) ≡ own (firing.cpu + 1) (noted_of c.args.life c.args.follower.now) =
    subst (λ (n : ℕ). own (n + 1) (known_by c.lend.new.follower.note) ≡ own (n + 1) (noted_of c.args.life c.args.follower.now))
    c.requires.follower c.lend.ensures.own_known in
    let same : own (firing.cpu + 1) owner.knows ≡ own (firing.cpu + 1) (noted_of c.args.life c.args.follower.now) =
    met ∙ ap (λ (n : Noted Account). own (firing.cpu + 1) n.knows) note ∙ lent in
    elim c.if-is_seen.branch [
      | then-is_seen w ↦
          let last = rw w.if-is_seen.true at c.offer-is_seen.ensures.note in
          rw (w.result-is, w.follower-inside-is, last)
          (ap (own (firing.cpu + 1)) (noted_here c.args.life owner.row _ _ took) ∙ own_kept firing owner.knows (noted_of c.args.life c.args.follower.now) same)
      | else-is_seen w ↦
          let last = rw w.if-is_seen.false at c.offer-is_seen.ensures.note in
          rw (w.result-is, w.follower-inside-is, last)
          (ap (own (firing.cpu + 1)) (noted_here c.args.life owner.row _ _ took)
          ∙ own_unseen firing w.count.result owner.knows (noted_of c.args.life c.args.follower.now) same)
    ]

pub returns-clause-whole : goal.returns-clause-whole
returns-clause-whole g c = elim c.if-is_seen.branch [
  | then-is_seen w ↦
      let last = rw w.if-is_seen.true at c.offer-is_seen.ensures.note in
      let trail = rw w.if-is_seen.true at c.offer-is_seen.ensures.trail in
      rw (w.follower-inside-is, last, trail) refl
  | else-is_seen w ↦
      let last = rw w.if-is_seen.false at c.offer-is_seen.ensures.note in
      let trail = rw w.if-is_seen.false at c.offer-is_seen.ensures.trail in
      rw (w.follower-inside-is, last, trail) refl
]

pub returns-clause-kept : goal.returns-clause-kept
returns-clause-kept g c = elim c.if-is_seen.branch [
  | then-is_seen w ↦
      let trail = rw w.if-is_seen.true at c.offer-is_seen.ensures.trail in
      rw (w.result-is, trail) refl
  | else-is_seen w ↦
      let trail = rw w.if-is_seen.false at c.offer-is_seen.ensures.trail in
      rw (w.result-is, trail) (sym (append-nil c.args.present.now.owner.knows))
]
