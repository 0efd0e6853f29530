-- What holds at each turn of a loop of `output_of`.
use Rattle.std.proofs.Common.{◌≡◌, ◌≤◌, ◌+◌, ◌++◌, ℕ, List, length}
use Rattle.dt_world.specs.Input.{input_lines}
use Rattle.dt_world.specs.Progress.{HasTakenLines}
use Rattle.dt_world.proofs.replays.output_of.Given as goal

-- some of the lines were taken, and the rest has the others
abbrev pub invariant-loop-line : goal.invariant-loop-line
invariant-loop-line l = (lines : List (List ℕ)) × (input_lines l.input ≡ lines ++ input_lines l.rest)
    × (l.number ≡ length lines) × (l.number + length l.rest ≤ length l.input)
    × HasTakenLines l.fn.wanted l.machine lines l.progress

abbrev pub decreases-loop-line : goal.decreases-loop-line
decreases-loop-line l = length l.rest
