-- So many words were copied; the others are as they were.
use Rattle.std.proofs.Common.{◌≡◌, ◌+◌, ◌++◌, take, drop}
use Rattle.dt_aggstore.proofs.cells.move_down.Given as goal

abbrev pub invariant-loop-index : goal.invariant-loop-index
invariant-loop-index l =
    l.cells ≡ take l.to l.fn.cells ++ take l.index (drop l.from l.fn.cells) ++ drop (l.to + l.index) l.fn.cells
