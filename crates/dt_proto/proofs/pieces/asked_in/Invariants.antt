-- What holds at each turn of a loop of `asked_in`.
use Rattle.std.proofs.Common.{◌≡◌, take, map}
use Rattle.std.specs.List.{flat_map}
use Rattle.dt_proto.specs.Asked.{form_asked}
use Rattle.dt_proto.specs.HasRead.{HasRead}
use Rattle.dt_proto.specs.Lines.{lines_of}
use Rattle.dt_proto.proofs.pieces.asked_in.Given as goal

-- what was asked are the lines of the pieces so far
abbrev pub invariant-loop-piece : goal.invariant-loop-piece
invariant-loop-piece l =
    let input = flat_map (λ piece. piece.now) (take l.piece-index l.pieces) in
    HasRead input l.lines × (map form_asked l.asked.items ≡ lines_of input)
