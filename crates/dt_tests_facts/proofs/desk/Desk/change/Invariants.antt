use Rattle.dt_tests_facts.specs.Numbers.{number_fact}
use Rattle.dt_tests_facts.proofs.desk.Desk.change.Given as goal

-- the number that is handed over
abbrev pub ghosts-go_on_apart : goal.ghosts-go_on_apart
ghosts-go_on_apart g a = record { fact = number_fact a._from.now }
