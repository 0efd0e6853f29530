use Rattle.dt_tests_chain.proofs.beside_entries.looks_are_those_of_entries.Given as goal

-- the chains that were just made
abbrev pub ghosts-plays : goal.ghosts-plays
ghosts-plays g a = record { book = a.chains }
