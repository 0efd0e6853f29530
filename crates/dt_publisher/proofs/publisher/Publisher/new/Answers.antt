-- What is to be shown of `new`.
use Rattle.std.proofs.Common.{[], List, sym, subst}
use Rattle.dt_chain.specs.Writes.{Write}
use Rattle.dt_publisher.specs.Publishers.{AreOwnWrites, first_held, publisher_seen}
use Rattle.dt_publisher.proofs.Books.{name_is, named_by_first, word_is}
use Rattle.dt_publisher.proofs.publisher.Publisher.new.Goals as goal

pub invariant_of-result : goal.invariant_of-result
invariant_of-result g c =
    let books = c.fill.new.books.items in
    subst (λ (writes : List Write). AreOwnWrites (first_held books).word (first_held books).name writes books) (sym c.requires.fresh)
    (named_by_first c.args.facts.now c.args.maker.now.name [] books c.fill.ensures.books)

pub returns-clause-publisher : goal.returns-clause-publisher
returns-clause-publisher g c =
    let books = c.fill.new.books.items in
    let word = word_is c.args.facts.now c.args.maker.now.name [] books c.fill.ensures.books in
    let name = name_is c.args.facts.now c.args.maker.now.name [] books c.fill.ensures.books in
    λ i. publisher_seen (word i) (name i) c.args.writer.published (c.requires.fresh i)
