use Rattle.dt_bench_chain.proofs.main.Given as goal

-- the chains that were just made
abbrev pub ghosts-measured : goal.ghosts-measured
ghosts-measured g a = record { book = a.chains }
