-- The processors so far: nothing was taken on any.
use Rattle.std.proofs.Common.{◌≡◌, ◌==◌, length, if◌then◌else◌}
use Rattle.std.specs.List.{All}
use Rattle.dt_consumer.specs.Counts.{AtMost}
use Rattle.dt_consumer.specs.Tallies.{AreTallied, new_tally}
use Rattle.dt_consumer.proofs.processors.Processors.fresh.Given as goal

abbrev pub invariant-loop-cpu : goal.invariant-loop-cpu
invariant-loop-cpu l = record {
  counted : length l.all.items ≡ l.cpu;
  empty : AreTallied (λ cpu. new_tally l.options.bufpolicy l.options.bufsize (if cpu == 0 then l.reserve else 0)) l.all.items;
  counts : All (AtMost 0) l.all.items;
}
