-- What holds at each turn.
use Rattle.std.proofs.Common.{◌≡◌, ◌++◌, ℕ, List, length}
use Rattle.std.specs.Io.KnownBytes.{Appends}
use Rattle.dt_server.proofs.session.push_all.Given as goal

-- a beginning was written, and what is left is the rest
abbrev pub invariant-loop-rest : goal.invariant-loop-rest
invariant-loop-rest g l = (written : List ℕ) × (l.bytes ≡ written ++ l.rest)
    × Appends (g.W.Sink.contents l.fn.sink) (g.W.Sink.contents l.sink) written
    × (g.W.Sink.failures l.sink ≡ g.W.Sink.failures l.fn.sink)

abbrev pub decreases-loop-rest : goal.decreases-loop-rest
decreases-loop-rest g l = length l.rest
