use Rattle.dt_tests_facts.proofs.publishing.a_share_goes_on_with_its_book.Given as goal

-- the chains that were just made
abbrev pub ghosts-publishes : goal.ghosts-publishes
ghosts-publishes g a = record { book = a.chains }
