-- None of the counts so far is of this name.
use Rattle.std.proofs.Common.{◌≡◌, map, drop}
use Rattle.dt_front.specs.CountForms.{form_of_row_count}
use Rattle.dt_front.specs.Distribution.{count_at}
use Rattle.dt_front.proofs.distribution.count_at.Given as goal

abbrev pub invariant-loop-counted : goal.invariant-loop-counted
invariant-loop-counted l = count_at (map form_of_row_count l.counts) l.least ≡ count_at (map form_of_row_count (drop l.counted-index l.counts)) l.least
