-- The ends so far took their parts out.
use Rattle.std.proofs.Common.{◌≡◌, ℕ, ◌+◌, All, length, map, take}
use Rattle.dt_buffer.specs.Shows.{EndLast}
use Rattle.dt_consumer.specs.Counts.{AtMost}
use Rattle.dt_consumer.specs.Tallies.{AreTallied, Tally, with_records}
use Rattle.dt_life.specs.Takings.{freed_by, parts_out}
use Rattle.dt_record.specs.Forms.{form_of_end}
use Rattle.dt_speculation.specs.History.{SpecPast, specs_then}
use Rattle.dt_speculation.specs.IsAt.{SpecsAt, cpus_of, fails_of}
use Rattle.dt_consumer.proofs.committing.end_speculations.Given as goal

abbrev pub invariant-loop-end : goal.invariant-loop-end
invariant-loop-end l = record {
  len : length l.all.items ≡ length l.fn.all.items;
  fails : fails_of l.specs ≡ fails_of l.fn.specs;
  cpus : cpus_of l.specs ≡ cpus_of l.fn.specs;
  counts : (n : ℕ) → All (AtMost n) l.fn.all.items → All (AtMost (n + l.end-index)) l.all.items;
  freed : (past : SpecPast) → SpecsAt past l.fn.specs
      → SpecsAt (specs_then past (freed_by (map form_of_end (take l.end-index l.ends)))) l.specs;
  ended : (past : SpecPast) (tallies : ℕ → Tally) → SpecsAt past l.fn.specs
      → ((cpu : ℕ) → EndLast (tallies cpu).came l.in_end) → AreTallied tallies l.fn.all.items
      → AreTallied (λ cpu. with_records l.in_end
      (parts_out cpu past (map form_of_end (take l.end-index l.ends))) (tallies cpu)) l.all.items;
}
