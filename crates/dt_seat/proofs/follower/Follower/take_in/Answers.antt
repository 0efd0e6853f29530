-- What is to be shown of `take_in`.
use Rattle.std.proofs.Common.{◌≡◌, ◌<◌, ap, sym, ◌∙◌, subst, arith, Some, None}
use Rattle.dt_cred.specs.declared.account.Account.{Account}
use Rattle.dt_facts.specs.Facts.{HaveGrown, last_note}
use Rattle.dt_facts.specs.Handles.{BegunLists}
use Rattle.dt_facts.specs.Lives.{lives_over}
use Rattle.dt_facts.specs.laws.Lives.{over_stays, row_stays}
use Rattle.dt_seat.specs.Keeps.{IsEarlier, known_by, took_in}
use Rattle.dt_seat.specs.Publications.{writes_seen}
use Rattle.dt_seat.specs.Receipts.{later_told, told_of}
use Rattle.dt_seat.proofs.Hearing.{hears_of}
use Rattle.dt_seat.proofs.Known.{named_over}
use Rattle.dt_seat.proofs.Tellings.{follower_learnt, follower_noted, follower_told, receipt_over, receipt_told, rows_agree, same_row, told_heard, told_over}
use Rattle.dt_seat.proofs.follower.Follower.take_in.Goals as goal
use Rattle.dt_seat.proofs.follower.Follower.take_in.Goals.{in-Some+else-self-life+else-self-life-2, in_default}
use Rattle.dt_trail.specs.declared.law.Named.{Named}

pub learn-requires-then-self-life : goal.learn-requires-then-self-life
learn-requires-then-self-life g c =
    let mine : HaveGrown c.self.inside.lives.lists c.learn.new.one.lists = c.learn.ensures.begins.0 in
    let theirs : HaveGrown c.receipt.inside.lives.lists c.learn.new.one.lists = c.learn.ensures.begins.1 in
    let r = c.receipt.invariant.0 in
    let noted = (c.self.invariant.one c.in-Some.note c.in-Some.is).2 in
    r.same_row
    ∙ ap (λ (n : Named Account). n.id)
    (sym (same_row c.self.inside.lives.lists.lives c.receipt.inside.lives.lists.lives c.learn.new.one.lists.lives c.self.inside.life
    c.receipt.inside.life c.in-Some.note.row r.row mine.2 theirs.2 c.if-self-life.true noted r.is_open.1))

pub invariant_of-self : goal.invariant_of-self
invariant_of-self g c =
    let mine : HaveGrown c.self.inside.lives.lists c.learn.new.one.lists = c.learn.ensures.begins.0 in
    let items : HaveGrown c.self.inside.known.lists c.learn-2.new.one.lists = c.learn-2.ensures.begins.0 in
    let lives_word = ap (λ (b : BegunLists). b.word) c.learn.ensures.longer ∙ c.requires.facts in
    let lives_name = ap (λ (b : BegunLists). b.name) c.learn.ensures.longer in
    let items_word = ap (λ (b : BegunLists). b.word) c.learn-2.ensures.longer ∙ c.requires.facts in
    let items_name = ap (λ (b : BegunLists). b.name) c.learn-2.ensures.longer in
    let before = rw c.in-Some.is at c.self.invariant in
    let learnt = follower_learnt _ _ _ _ _ _ _ _ _ _ before c.learn.new.one c.learn-2.new.one lives_word lives_name items_word items_name mine.2 items.1 in
    follower_noted _ _ _ _ _ _ _ _ c.in-Some.note c.learn-then-self-life.new.self _ learnt c.learn-then-self-life.ensures.grows.row
    c.learn-then-self-life.ensures.grows.number

pub invariant_of-self-then-self-life-2 : goal.invariant_of-self-then-self-life-2
invariant_of-self-then-self-life-2 g c =
    let mine : HaveGrown c.self.inside.lives.lists c.learn.new.one.lists = c.learn.ensures.begins.0 in
    let items : HaveGrown c.self.inside.known.lists c.learn-2.new.one.lists = c.learn-2.ensures.begins.0 in
    let lives_word = ap (λ (b : BegunLists). b.word) c.learn.ensures.longer ∙ c.requires.facts in
    let lives_name = ap (λ (b : BegunLists). b.name) c.learn.ensures.longer in
    let items_word = ap (λ (b : BegunLists). b.word) c.learn-2.ensures.longer ∙ c.requires.facts in
    let items_name = ap (λ (b : BegunLists). b.name) c.learn-2.ensures.longer in
    let before = rw c.in-Some.is at c.self.invariant in
    follower_learnt _ _ _ _ _ _ _ _ _ _ before c.learn.new.one c.learn-2.new.one lives_word lives_name items_word items_name mine.2 items.1

pub returns-then-self-life-2-clause-heard : goal.returns-then-self-life-2-clause-heard
returns-then-self-life-2-clause-heard g c =
    let mine : HaveGrown c.self.inside.lives.lists c.learn.new.one.lists = c.learn.ensures.begins.0 in
    let named = (c.self.invariant.one c.in-Some.note c.in-Some.is).2 in
    let before = named_over c.self.inside.lives.lists.lives c.self.inside.life c.in-Some.note.row named in
    let grown = over_stays c.self.inside.lives.lists.lives c.learn.new.one.lists.lives mine.2 in
    let over : c.receipt.inside.life < lives_over c.learn.new.one.lists.lives = omega (arith, before, grown, c.if-self-life-2.true) in
    rw (← c.receipt.view_is, ← c.self.view_is, c.in-Some.is)
    (told_over c.self.inside.seat c.self.inside.cpu c.self.inside.share c.self.inside.lives c.learn.new.one (Some c.in-Some.note)
    c.self.inside.told mine.2 c.receipt.inside.seat c.receipt.inside.life c.receipt.inside.account c.receipt.inside.told.knows
    (writes_seen c.receipt.inside.front) over)

pub later_of-requires : goal.later_of-requires
later_of-requires g c =
    let mine : HaveGrown c.self.inside.lives.lists c.learn.new.one.lists = c.learn.ensures.begins.0 in
    let theirs : HaveGrown c.receipt.inside.lives.lists c.learn.new.one.lists = c.learn.ensures.begins.1 in
    let r = c.receipt.invariant.0 in
    let agree = rows_agree c.self.inside.lives.lists.lives c.receipt.inside.lives.lists.lives c.learn.new.one.lists.lives
    c.self.inside.known.lists.items (took_in c.self.inside.share.fact) c.receipt.inside.life r.row c.receipt.inside.told c.self.inside.told
    mine.2 theirs.2 r.is_open.1 r.same_row c.self.invariant.heard in
    elim c.match-self.branch [
      | in-Some+else-self-life+else-self-life-2 w ↦ rw (c.take.ensures.value, w.self-inside-is) agree
      | in_default w ↦ rw (c.take.ensures.value, w.self-inside-is) agree
    ]

pub invariant_of-self-2 : goal.invariant_of-self-2
invariant_of-self-2 g c =
    let mine : HaveGrown c.self.inside.lives.lists c.learn.new.one.lists = c.learn.ensures.begins.0 in
    let theirs : HaveGrown c.receipt.inside.lives.lists c.learn.new.one.lists = c.learn.ensures.begins.1 in
    let items : HaveGrown c.self.inside.known.lists c.learn-2.new.one.lists = c.learn-2.ensures.begins.0 in
    let others : HaveGrown c.receipt.inside.known.lists c.learn-2.new.one.lists = c.learn-2.ensures.begins.1 in
    let lives_word = ap (λ (b : BegunLists). b.word) c.learn.ensures.longer ∙ c.requires.facts in
    let lives_name = ap (λ (b : BegunLists). b.name) c.learn.ensures.longer in
    let items_word = ap (λ (b : BegunLists). b.word) c.learn-2.ensures.longer ∙ c.requires.facts in
    let items_name = ap (λ (b : BegunLists). b.name) c.learn-2.ensures.longer in
    let learnt = follower_learnt _ _ _ _ _ _ _ _ _ _ c.self.invariant c.learn.new.one c.learn-2.new.one lives_word lives_name items_word items_name mine.2 items.1 in
    let took = took_in c.self.inside.share.fact in
    let told = λ (earlier : IsEarlier c.receipt.inside.life took).
    let right = receipt_told _ _ _ _ _ _ _ _ c.receipt.invariant.0 c.learn.new.one.lists.lives c.learn-2.new.one.lists.items took theirs.2 others.1 earlier in
    let over = receipt_over _ _ _ _ _ _ _ _ c.receipt.invariant.0 c.learn.new.one.lists.lives theirs.2 in
    let hears = hears_of c.learn.new.one.lists.lives c.learn-2.new.one.lists.items took (known_by c.self.inside.note) c.receipt.inside.life
    c.receipt.inside.told right over c.self.inside.told learnt.heard in
    follower_told _ _ _ _ _ _ _ _ _ _ learnt (later_told c.self.inside.told (told_of c.receipt.inside.life c.receipt.inside.told)) hears.right in
    elim c.match-self.branch [
      | in-Some+else-self-life+else-self-life-2 w ↦
          let last : took ≡ Some (last_note c.self.inside.life w.in-Some.note.row) = (c.self.invariant.one w.in-Some.note w.in-Some.is).0 in
          let below : c.self.inside.life < c.receipt.inside.life = omega (arith, w.if-self-life.false, w.if-self-life-2.false) in
          rw (c.later_of.ensures, c.take.ensures.value, w.self-inside-is, ← w.in-Some.is)
          (told (subst (IsEarlier c.receipt.inside.life) (sym last) below))
      | in_default w ↦
          let last : took ≡ None = c.self.invariant.none w.in_default.is in
          rw (c.later_of.ensures, c.take.ensures.value, w.self-inside-is)
          (told (subst (IsEarlier c.receipt.inside.life) (sym last) tt))
    ]

pub returns-clause-heard : goal.returns-clause-heard
returns-clause-heard g c =
    let mine : HaveGrown c.self.inside.lives.lists c.learn.new.one.lists = c.learn.ensures.begins.0 in
    let theirs : HaveGrown c.receipt.inside.lives.lists c.learn.new.one.lists = c.learn.ensures.begins.1 in
    let items : HaveGrown c.self.inside.known.lists c.learn-2.new.one.lists = c.learn-2.ensures.begins.0 in
    let others : HaveGrown c.receipt.inside.known.lists c.learn-2.new.one.lists = c.learn-2.ensures.begins.1 in
    let lives_word = ap (λ (b : BegunLists). b.word) c.learn.ensures.longer ∙ c.requires.facts in
    let lives_name = ap (λ (b : BegunLists). b.name) c.learn.ensures.longer in
    let items_word = ap (λ (b : BegunLists). b.word) c.learn-2.ensures.longer ∙ c.requires.facts in
    let items_name = ap (λ (b : BegunLists). b.name) c.learn-2.ensures.longer in
    let learnt = follower_learnt _ _ _ _ _ _ _ _ _ _ c.self.invariant c.learn.new.one c.learn-2.new.one lives_word lives_name items_word items_name mine.2 items.1 in
    let took = took_in c.self.inside.share.fact in
    let over = receipt_over _ _ _ _ _ _ _ _ c.receipt.invariant.0 c.learn.new.one.lists.lives theirs.2 in
    let told = λ (earlier : IsEarlier c.receipt.inside.life took).
    let right = receipt_told _ _ _ _ _ _ _ _ c.receipt.invariant.0 c.learn.new.one.lists.lives c.learn-2.new.one.lists.items took theirs.2 others.1 earlier in
    let hears = hears_of c.learn.new.one.lists.lives c.learn-2.new.one.lists.items took (known_by c.self.inside.note) c.receipt.inside.life
    c.receipt.inside.told right over c.self.inside.told learnt.heard in
    told_heard c.self.inside.seat c.self.inside.cpu c.self.inside.share c.self.inside.lives c.learn.new.one c.self.inside.note c.self.inside.told
    mine.2 c.receipt.inside.seat c.receipt.inside.life c.receipt.inside.account c.receipt.inside.told (writes_seen c.receipt.inside.front)
    c.learn-2.new.one.lists.items right over hears in
    elim c.match-self.branch [
      | in-Some+else-self-life+else-self-life-2 w ↦
          let last : took ≡ Some (last_note c.self.inside.life w.in-Some.note.row) = (c.self.invariant.one w.in-Some.note w.in-Some.is).0 in
          let below : c.self.inside.life < c.receipt.inside.life = omega (arith, w.if-self-life.false, w.if-self-life-2.false) in
          rw (c.later_of.ensures, c.take.ensures.value, w.self-inside-is, ← w.in-Some.is, ← c.receipt.view_is, ← c.self.view_is)
          (told (subst (IsEarlier c.receipt.inside.life) (sym last) below))
      | in_default w ↦
          let last : took ≡ None = c.self.invariant.none w.in_default.is in
          rw (c.later_of.ensures, c.take.ensures.value, w.self-inside-is, ← c.receipt.view_is, ← c.self.view_is)
          (told (subst (IsEarlier c.receipt.inside.life) (sym last) tt))
    ]

pub returns-clause-whose : goal.returns-clause-whose
returns-clause-whose g c =
    let theirs : HaveGrown c.receipt.inside.lives.lists c.learn.new.one.lists = c.learn.ensures.begins.1 in
    let r = c.receipt.invariant.0 in
    let named = row_stays c.receipt.inside.lives.lists.lives c.learn.new.one.lists.lives c.receipt.inside.life r.row theirs.2 r.is_open.1 in
    elim c.match-self.branch [
      | in-Some+else-self-life+else-self-life-2 w ↦ rw (w.self-inside-is, ← c.receipt.view_is) (r.row, named, r.same_account)
      | in_default w ↦ rw (w.self-inside-is, ← c.receipt.view_is) (r.row, named, r.same_account)
    ]

pub returns-then-self-life-clause-go : goal.returns-then-self-life-clause-go
returns-then-self-life-clause-go g c = rw (← c.receipt.view_is) c.receipt.invariant.2

pub returns-then-self-life-2-clause-go : goal.returns-then-self-life-2-clause-go
returns-then-self-life-2-clause-go g c = rw (← c.receipt.view_is) c.receipt.invariant.2

pub returns-clause-go : goal.returns-clause-go
returns-clause-go g c = rw (← c.receipt.view_is) c.receipt.invariant.2

pub returns-then-self-life-2-clause-whose : goal.returns-then-self-life-2-clause-whose
returns-then-self-life-2-clause-whose g c =
    let theirs : HaveGrown c.receipt.inside.lives.lists c.learn.new.one.lists = c.learn.ensures.begins.1 in
    let r = c.receipt.invariant.0 in
    let named = row_stays c.receipt.inside.lives.lists.lives c.learn.new.one.lists.lives c.receipt.inside.life r.row theirs.2 r.is_open.1 in
    rw (← c.receipt.view_is) (r.row, named, r.same_account)
