use Rattle.dt_tests_facts.proofs.threads.who_has_the_share_knows_what_lies_under_the_lock.Given as goal

-- the word and the name of the book
abbrev pub ghosts-visited : goal.ghosts-visited
ghosts-visited g a = record { word = a.book.word; name = a.book.name }
