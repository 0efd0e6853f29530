use Rattle.std.proofs.Common.{◌≡◌}
use Rattle.std.specs.Io.KnownBytes.{Keeps}
use Rattle.dt_server.proofs.device.CountedSink.push.Given as goal

-- a write that was interrupted gave nothing
abbrev pub invariant-loop : goal.invariant-loop
invariant-loop g l = Keeps (g.W.Write.contents l.fn.self.device) (g.W.Write.contents l.self.device) × (l.self.failures ≡ l.fn.self.failures)
