-- What holds at each turn.
use Rattle.std.proofs.Common.{◌≡◌, ◌++◌, ℕ, List, length}
use Rattle.std.specs.Io.KnownBytes.{Appends}
use Rattle.dt_proto.specs.HasRead.{HasRead}
use Rattle.dt_proto.specs.Lines.{LineForm, lines_of}
use Rattle.dt_server.specs.Talk.{ServesOn}
use Rattle.dt_server.proofs.session.answer_piece.Given as goal

-- a front of the piece was taken, and the lines up to there were served
abbrev pub invariant-loop-rest : goal.invariant-loop-rest
invariant-loop-rest g l = (taken : List ℕ) × (text : List ℕ) × (asked : List LineForm) × (l.piece ≡ taken ++ l.rest)
    × Appends (g.W.Sink.contents l.fn.sink) (g.W.Sink.contents l.sink) text
    × ServesOn l.fn.session.account g.J.Traced.contents l.fn.session.knows l.session.knows asked text
    × ((input : List ℕ) → HasRead input l.fn.lines
    → HasRead (input ++ taken) l.lines × (lines_of (input ++ taken) ≡ lines_of input ++ asked))
    × (g.W.Sink.failures l.sink ≡ g.W.Sink.failures l.fn.sink)
    × (l.session.seat ≡ l.fn.session.seat) × (l.session.life ≡ l.fn.session.life) × (l.session.account ≡ l.fn.session.account)

abbrev pub decreases-loop-rest : goal.decreases-loop-rest
decreases-loop-rest g l = length l.rest
