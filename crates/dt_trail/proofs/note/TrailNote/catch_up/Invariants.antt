use Rattle.std.proofs.Common.{length, ◌-◌}
use Rattle.dt_trail.specs.Known.{Grows}
use Rattle.dt_trail.proofs.note.TrailNote.catch_up.Given as goal
use Rattle.dt_trail.specs.Limits.{cells_bound}

abbrev pub invariant-items : goal.invariant-items
invariant-items g l = Grows l.initial.self l.self

abbrev pub decreases-items : goal.decreases-items
decreases-items g l = cells_bound - length l.self.knows
