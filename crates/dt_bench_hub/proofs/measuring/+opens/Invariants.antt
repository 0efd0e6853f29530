use Rattle.dt_bench_hub.proofs.measuring.+opens.Given as goal

-- each session that it opens is one less to open
abbrev pub decreases-opens : goal.decreases-opens
decreases-opens g l = l.left
