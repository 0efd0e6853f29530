use Rattle.dt_tests_chain.proofs.readers.places_and_the_end.Given as goal

-- the chains that were just made
abbrev pub ghosts-ends : goal.ghosts-ends
ghosts-ends g a = record { book = a.chains }
