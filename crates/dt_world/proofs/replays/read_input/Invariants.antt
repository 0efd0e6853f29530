-- What holds at each turn of a loop of `read_input`.
use Rattle.std.specs.Io.KnownBytes.{Consumes}
use Rattle.dt_world.proofs.replays.read_input.Given as goal

-- what was read is what the reader has lost
abbrev pub invariant-loop-read : goal.invariant-loop-read
invariant-loop-read g l = Consumes (g.R.Read.remaining l.fn.reader) (g.R.Read.remaining l.reader) l.input.items
