use Rattle.std.proofs.Common.{◌≡◌, Some, None}
use Rattle.std.specs.Arc.{arc_value}
use Rattle.atomic_blocks.specs.Cells.{me}
use Rattle.dt_trail.specs.Rule.{maker, first_extent}
use Rattle.dt_trail.specs.Insides.{row_of, OfRow}
use Rattle.dt_trail.specs.Known.{AreNew}
use Rattle.dt_trail.proofs.opening.Trail.new.Given as goal

abbrev pub invariant-loop-i : goal.invariant-loop-i
invariant-loop-i g l = record {
  seat : OfRow (arc_value l.inner) l.maker;
  view : l.maker.me ≡ me (maker (Some (arc_value l.inner).about.account) l.i l.door (first_extent l.fn.cells)) None None;
  notes : AreNew (row_of (arc_value l.inner)) l.i l.made.items;
}
