-- The ends so far.
use Rattle.std.proofs.Common.{◌≡◌, ◌<◌, ℕ, map, take}
use Rattle.dt_alone.specs.Happened.{left_count, only_attempts, told_both, told_on}
use Rattle.dt_life.specs.Takings.{freed_by, parts_out}
use Rattle.dt_record.specs.Forms.{form_of_end}
use Rattle.dt_speculation.specs.History.{SpecPast, specs_then}
use Rattle.dt_speculation.specs.IsAt.{SpecsAt, cpus_of, fails_of}
use Rattle.dt_alone.proofs.listing.end_all.Given as goal

abbrev pub invariant-loop-end : goal.invariant-loop-end
invariant-loop-end l = record {
  told : (past : SpecPast) → SpecsAt past l.fn.specs → (on : ℕ) → on < l.cpus → told_on on l.happened.items
      ≡ told_both (told_on on l.fn.happened.items)
      (only_attempts l.in_end (parts_out on past (map form_of_end (take l.end-index l.ends))));
  stands : (past : SpecPast) → SpecsAt past l.fn.specs
      → SpecsAt (specs_then past (freed_by (map form_of_end (take l.end-index l.ends)))) l.specs;
  left : left_count l.happened.items ≡ left_count l.fn.happened.items;
  fails : fails_of l.specs ≡ fails_of l.fn.specs;
  cpus : cpus_of l.specs ≡ cpus_of l.fn.specs;
}
