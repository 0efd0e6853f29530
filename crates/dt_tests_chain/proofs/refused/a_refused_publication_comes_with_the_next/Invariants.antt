use Rattle.dt_tests_chain.proofs.refused.a_refused_publication_comes_with_the_next.Given as goal

-- the chains that were just made
abbrev pub ghosts-publishes_twice : goal.ghosts-publishes_twice
ghosts-publishes_twice g a = record { book = a.chains }
