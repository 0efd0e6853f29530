use Rattle.std.proofs.Common.{◌≡◌}
use Rattle.std.specs.Io.KnownBytes.{Keeps}
use Rattle.dt_server.proofs.device.CountedSource.pull.Given as goal

-- a read that was interrupted took nothing
abbrev pub invariant-loop : goal.invariant-loop
invariant-loop g l = Keeps (g.R.Read.remaining l.fn.self.device) (g.R.Read.remaining l.self.device) × (l.self.failures ≡ l.fn.self.failures)
