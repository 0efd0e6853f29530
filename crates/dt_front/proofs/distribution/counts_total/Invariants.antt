-- The total of the counts so far.
use Rattle.std.proofs.Common.{◌≡◌, sum_by, take}
use Rattle.dt_front.proofs.distribution.counts_total.Given as goal

abbrev pub invariant-loop-counted : goal.invariant-loop-counted
invariant-loop-counted l = l.total ≡ sum_by (λ counted. counted.count) (take l.counted-index l.counts)
