-- The parts of the processors so far were attempted.
use Rattle.std.proofs.Common.{◌≡◌, ℕ, ◌+◌, All, length}
use Rattle.dt_buffer.specs.Shows.{EndLast}
use Rattle.dt_consumer.specs.Counts.{AtMost}
use Rattle.dt_consumer.specs.Tallies.{AreTallied, Tally, with_records}
use Rattle.dt_life.specs.Takings.{part_out}
use Rattle.dt_record.specs.Taking.{committed}
use Rattle.dt_speculation.specs.History.{SpecPast}
use Rattle.dt_speculation.specs.IsAt.{SpecsAt}
use Rattle.dt_consumer.proofs.Tallying.{Each, up_to}
use Rattle.dt_consumer.proofs.committing.commit.Given as goal

abbrev pub invariant-loop-cpu : goal.invariant-loop-cpu
invariant-loop-cpu l = record {
  len : length l.all.items ≡ length l.fn.all.items;
  counts : (n : ℕ) → All (AtMost n) l.fn.all.items → Each AtMost (up_to (λ cpu. n) (λ cpu. n + 1) l.cpu) l.all.items;
  committed : (past : SpecPast) (tallies : ℕ → Tally) → SpecsAt past l.fn.specs
      → ((cpu : ℕ) → EndLast (tallies cpu).came l.in_end) → AreTallied tallies l.fn.all.items
      → AreTallied (up_to tallies (λ cpu. with_records l.in_end (part_out cpu past (committed l.id)) (tallies cpu)) l.cpu) l.all.items;
}
