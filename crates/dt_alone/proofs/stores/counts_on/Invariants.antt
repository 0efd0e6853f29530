-- The counts so far.
use Rattle.std.proofs.Common.{◌≡◌, ℕ, ◌<◌, ◌≤◌, get_or, length, take}
use Rattle.dt_alone.specs.Happened.{counted_on}
use Rattle.dt_alone.proofs.stores.counts_on.Given as goal

abbrev pub invariant-loop-one : goal.invariant-loop-one
invariant-loop-one l = record {
  counted : (cpu : ℕ) → cpu < l.cpus → get_or l.counts.items cpu 0
      ≡ counted_on l.what cpu (take l.one-index l.happened);
  few : (cpu : ℕ) → cpu < l.cpus → get_or l.counts.items cpu 0 ≤ l.one-index;
  len : length l.counts.items ≡ l.cpus;
}
