-- What is to be shown of `publish`.
use Rattle.std.proofs.Common.{◌≡◌, ◌<◌, ◌+◌, ℕ, length, sym, ap, ◌∙◌, subst, arith}
use Rattle.dt_chain.specs.Writes.{seat_of, writes_of}
use Rattle.dt_facts.specs.Facts.{Follows, writes_fact}
use Rattle.dt_facts.specs.Handles.{HeldFact}
use Rattle.dt_facts.specs.declared.fact.Fact.{Fact}
use Rattle.dt_publisher.specs.Publishers.{Publishing, first_held, own_writes_held}
use Rattle.dt_publisher.proofs.Books.{book_at, gone_on, held_as, named_by_first, none_lost, one_more}
use Rattle.dt_publisher.proofs.publisher.Publisher.publish.Goals as goal

pub go_on_apart-requires-clause-follows : goal.go_on_apart-requires-clause-follows
go_on_apart-requires-clause-follows g c =
    let before = c.self.inside.writer.writes in
    let after = c.publish-result.new.self.writes in
    let seat = c.seat-seat.result in
    let more = one_more c.args.write before after _ _ c.publish-result.result c.publish-result.ensures.ok c.publish-result.ensures.err in
    let held : c.agree.new.share.fact ≡ writes_fact (writes_of before seat) =
    ap (λ (h : HeldFact). h.fact) c.agree.ensures.share ∙ c.agree.ensures.agree
    ∙ ap (λ (p : Publishing). writes_fact (writes_of p.writes seat)) (sym c.agree.ensures.same ∙ sym c.self.view_is) in
    subst (λ (x : Fact). Follows x (writes_fact (writes_of after seat))) (sym held) (none_lost c.args.write before after seat more)

pub invariant_of-self : goal.invariant_of-self
invariant_of-self g c =
    let inside = c.self.inside in
    let first = first_held inside.books.items in
    let at = c.number.result in
    let after = c.publish-result.new.self.writes in
    let more = one_more c.args.write inside.writer.writes after _ _ c.publish-result.result c.publish-result.ensures.ok c.publish-result.ensures.err in
    let small : at < length inside.books.items = omega (arith, c.self.invariant.many, c.number.ensures.small) in
    let book = book_at first.word first.name inside.writer.writes inside.books.items at c.index_mut-book.result.now c.self.invariant small
    c.index_mut-book.ensures.value in
    let word : c.args.facts.now ≡ first.word =
    sym (ap (λ (p : Publishing). p.word) (c.self.view_is ∙ c.agree.ensures.same) ∙ c.requires.facts) in
    let now : c.go_on_apart.new.book ≡ own_writes_held first.word first.name after at =
    held_as first.word c.args.facts.now first.name c.index_mut-book.result.now.name at c.seat-seat.result after c.go_on_apart.new.book
    c.go_on_apart.ensures.book word (ap (λ (h : HeldFact). h.name) book) (sym c.number.ensures.value) in
    named_by_first first.word first.name after _
    (gone_on first.word first.name c.args.write inside.writer.writes after inside.books.items at c.go_on_apart.new.book c.self.invariant more
    (c.number.ensures.value ∙ c.seat-seat.ensures) now)

pub returns-clause-share : goal.returns-clause-share
returns-clause-share g c =
    let inside = c.self.inside in
    let first = first_held inside.books.items in
    let at = c.number.result in
    let old = c.args.self.now in
    let small : at < length inside.books.items = omega (arith, c.self.invariant.many, c.number.ensures.small) in
    let book = book_at first.word first.name inside.writer.writes inside.books.items at c.index_mut-book.result.now c.self.invariant small
    c.index_mut-book.ensures.value in
    let name : c.index_mut-book.result.now.name ≡ old.first + seat_of c.args.write =
    ap (λ (h : HeldFact). h.name) book ∙ ap (λ (k : ℕ). first.name + k) (c.number.ensures.value ∙ c.seat-seat.ensures)
    ∙ ap (λ (p : Publishing). p.first + seat_of c.args.write) (c.self.view_is ∙ c.agree.ensures.same) in
    held_as old.word c.args.facts.now old.first c.index_mut-book.result.now.name (seat_of c.args.write) c.seat-seat.result
    c.publish-result.new.self.writes c.go_on_apart.new.share c.go_on_apart.ensures.share (sym c.requires.facts) name c.seat-seat.ensures
