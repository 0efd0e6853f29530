-- What holds at each turn of a loop of `write_whole`.
use Rattle.std.proofs.Common.{◌≡◌, ◌≤◌, ℕ, length, take, drop}
use Rattle.std.specs.Io.KnownBytes.{Appends}
use Rattle.dt_world.proofs.writing.write_whole.Given as goal

-- a beginning was written, and what is left is the rest
abbrev pub invariant-loop-write : goal.invariant-loop-write
invariant-loop-write g l = (count : ℕ) × (count ≤ length l.bytes) × (l.rest ≡ drop count l.bytes)
    × Appends (g.W.Write.contents l.fn.writer) (g.W.Write.contents l.writer) (take count l.bytes)
