-- The parts of the processors so far were listed.
use Rattle.std.proofs.Common.{◌≡◌, ℕ, [], if◌then◌else◌}
use Rattle.std.specs.Bool.{nat_lt}
use Rattle.dt_alone.specs.Happened.{left_count, only_attempts, told_both, told_on}
use Rattle.dt_life.specs.Takings.{part_out}
use Rattle.dt_record.specs.Taking.{committed}
use Rattle.dt_speculation.specs.History.{SpecPast}
use Rattle.dt_speculation.specs.IsAt.{SpecsAt}
use Rattle.dt_alone.proofs.listing.commit.Given as goal

abbrev pub invariant-loop-cpu : goal.invariant-loop-cpu
invariant-loop-cpu l = record {
  told : (past : SpecPast) → SpecsAt past l.specs → (on : ℕ) → told_on on l.happened.items
      ≡ told_both (told_on on l.fn.happened.items)
      (only_attempts l.in_end (if nat_lt on l.cpu then part_out on past (committed l.id) else []));
  left : left_count l.happened.items ≡ left_count l.fn.happened.items;
}
