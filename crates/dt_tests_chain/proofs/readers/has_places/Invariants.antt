use Rattle.dt_tests_chain.proofs.readers.has_places.Given as goal

-- the chains that were just made
abbrev pub ghosts-fills_places : goal.ghosts-fills_places
ghosts-fills_places g a = record { book = a.chains }
