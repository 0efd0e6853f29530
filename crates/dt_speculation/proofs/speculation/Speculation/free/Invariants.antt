-- The parts so far are empty, and the others as they were.
use Rattle.std.proofs.Common.{◌≡◌, ◌≤◌, ℕ, Bool, List, [], length, get_or}
use Rattle.std.specs.List.{AllWithin}
use Rattle.dt_speculation.specs.IsAt.{PartIsAt, SpeculationIsAt}
use Rattle.dt_speculation.specs.declared.part.SpecPart.{SpecPart}
use Rattle.dt_speculation.proofs.speculation.Speculation.free.Given as goal

abbrev pub invariant-loop-cpu : goal.invariant-loop-cpu
invariant-loop-cpu l = record {
  parts : length l.self.parts.items ≡ length l.fn.self.parts.items;
  cleared : (size : ℕ) (in_use : Bool) (records : ℕ → List (List ℕ)) → SpeculationIsAt size in_use records l.fn.self
      → AllWithin (PartIsAt size []) l.self.parts.items 0 l.cpu;
  rest : (k : ℕ) (d : SpecPart) → l.cpu ≤ k → get_or l.self.parts.items k d ≡ get_or l.fn.self.parts.items k d;
}
