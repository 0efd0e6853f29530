use Rattle.dt_facts.specs.Facts.{items_fact, lists_in}
use Rattle.dt_facts.specs.Lives.{known_more}
use Rattle.dt_tests_facts.proofs.receipts.Session.new.Given as goal

-- the items that the note knows, with those that were known before
abbrev pub ghosts-go_on_apart : goal.ghosts-go_on_apart
ghosts-go_on_apart a = record { fact = items_fact (known_more 0 a._from.now.knows (lists_in a.share.now.fact).items) }
