-- What holds at each turn.
use Rattle.std.proofs.Common.{◌≡◌, ℕ, List}
use Rattle.std.specs.Io.KnownBytes.{Appends, Consumes}
use Rattle.dt_proto.specs.HasRead.{HasRead}
use Rattle.dt_proto.specs.Lines.{lines_of}
use Rattle.dt_server.specs.Talk.{ServesOn}
use Rattle.dt_server.proofs.session.talk.Given as goal

-- the lines of what was read were served
abbrev pub invariant-loop : goal.invariant-loop
invariant-loop g l = (input : List ℕ) × (text : List ℕ)
    × Consumes (g.R.Source.remaining l.fn.source) (g.R.Source.remaining l.source) input
    × Appends (g.W.Sink.contents l.fn.sink) (g.W.Sink.contents l.sink) text
    × HasRead input l.lines
    × ServesOn l.fn.session.account g.J.Traced.contents l.fn.session.knows l.session.knows (lines_of input) text
    × (g.W.Sink.failures l.sink ≡ g.W.Sink.failures l.fn.sink) × (g.R.Source.failures l.source ≡ g.R.Source.failures l.fn.source)
    × (l.session.seat ≡ l.fn.session.seat) × (l.session.life ≡ l.fn.session.life) × (l.session.account ≡ l.fn.session.account)
