use Rattle.dt_tests_chain.proofs.many_looks.masks_are_states_of_a_list_that_grows.Given as goal

-- the chains that were just made
abbrev pub ghosts-looks_beside_a_writer : goal.ghosts-looks_beside_a_writer
ghosts-looks_beside_a_writer g a = record { book = a.chains }
