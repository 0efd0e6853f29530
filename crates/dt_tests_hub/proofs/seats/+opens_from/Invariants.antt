use Rattle.dt_tests_hub.proofs.seats.+opens_from.Given as goal

-- each session that it opens is one less to open
abbrev pub decreases-opens_from : goal.decreases-opens_from
decreases-opens_from g l = l.left
