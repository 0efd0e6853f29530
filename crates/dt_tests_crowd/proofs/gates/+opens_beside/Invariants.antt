use Rattle.dt_tests_crowd.proofs.gates.+opens_beside.Given as goal

-- each session that it opens is one less to open
abbrev pub decreases-opens_beside : goal.decreases-opens_beside
decreases-opens_beside g l = l.left
