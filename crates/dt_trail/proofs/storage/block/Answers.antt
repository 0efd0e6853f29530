use Rattle.std.proofs.Common.{rules, ◌+◌, refl, sym, subst, length, ap, ◌∙◌, length-append, ℕ}
use Rattle.atomic_blocks.specs.Cells.{AllHome}
use Rattle.dt_trail.specs.Blocks.{Blank}
use Rattle.dt_trail.proofs.Making.{blank_more}
use Rattle.dt_trail.proofs.storage.block.Goals as goal

pub cells-preserved : goal.cells-preserved
cells-preserved c = let e = c.push.ensures in let i = c.cells.invariant in (
  search rules,
  search rules,
  search rules,
  subst AllHome (sym e.2) (Rattle.atomic_blocks.proofs.Homes.home_more _ _ tt i.3 refl),
  ap length e.2 ∙ (length-append c.cells.block.cells _ ∙ ap (λ (n : ℕ). n + 1) i.4),
  subst Blank (sym e.2) (blank_more _ _ _ i.5),
)
