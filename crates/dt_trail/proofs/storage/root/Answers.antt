use Rattle.std.proofs.Common.{rules, ◌+◌, refl, sym, subst}
use Rattle.atomic_blocks.specs.Cells.{AllHome}
use Rattle.dt_trail.specs.Blocks.{Rooted}
use Rattle.dt_trail.proofs.Making.{rooted_more}
use Rattle.dt_trail.proofs.storage.root.Goals as goal

pub cells-preserved : goal.cells-preserved
cells-preserved c = let e = c.push.ensures in let i = c.cells.invariant in (
  search rules,
  search rules,
  search rules,
  subst AllHome (sym e.2) (Rattle.atomic_blocks.proofs.Homes.home_more _ _ tt i.3 refl),
  subst (Rooted c.args.first.ptr c.args.size (c.cells.i + 1)) (sym e.2) (rooted_more c.args.first.ptr c.args.size c.cells.i _ _ _ (search rules) (search rules) i.4),
)
