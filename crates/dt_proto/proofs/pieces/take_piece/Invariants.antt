-- What holds at each turn of a loop of `take_piece`.
use Rattle.std.proofs.Common.{◌≡◌, ◌++◌, ℕ, List, length, map}
use Rattle.dt_proto.specs.Asked.{form_asked}
use Rattle.dt_proto.specs.HasRead.{HasRead}
use Rattle.dt_proto.specs.Lines.{lines_of}
use Rattle.dt_proto.proofs.pieces.take_piece.Given as goal

-- a front of the piece was taken, and what was asked are the lines up to there
abbrev pub invariant-loop-rest : goal.invariant-loop-rest
invariant-loop-rest l = (taken : List ℕ) × (l.piece ≡ taken ++ l.rest)
    × ((input : List ℕ) → HasRead input l.fn.lines → map form_asked l.fn.asked.items ≡ lines_of input
    → HasRead (input ++ taken) l.lines × (map form_asked l.asked.items ≡ lines_of (input ++ taken)))

abbrev pub decreases-loop-rest : goal.decreases-loop-rest
decreases-loop-rest l = length l.rest
