-- What stays as blocks are added.
use Rattle.std.proofs.Common.{◌≡◌, ◌≤◌, ◌+◌, ◌-◌}
use Rattle.dt_life.specs.Limits.{history_max, lines_max}
use Rattle.dt_seat.specs.Trailed.{IsTrailed}
use Rattle.dt_trail.specs.Known.{noted}
use Rattle.dt_seat.proofs.trailed.make_room.Given as goal

abbrev pub invariant-blocks-2 : goal.invariant-blocks-2
invariant-blocks-2 g l = record {
  kept : IsTrailed g.J.Traced.contents l.fn.owner.row.account l.owner l.fn.consumer;
  row : l.owner.row ≡ l.fn.owner.row;
  knows : l.owner.knows ≡ l.fn.owner.knows;
  cells : l.fn.owner.cells ≤ l.owner.cells;
  note : l.note ≡ noted l.fn.note.row l.fn.note.number l.fn.owner.knows;
  consumer : l.consumer ≡ l.fn.consumer;
  wanted : l.wanted ≤ lines_max + history_max;
}

abbrev pub decreases-blocks-2 : goal.decreases-blocks-2
decreases-blocks-2 g l = l.wanted - l.owner.cells
