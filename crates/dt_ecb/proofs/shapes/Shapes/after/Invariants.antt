-- The accepted uses, and those of the clauses so far.
use Rattle.std.proofs.Common.{◌≡◌, ◌++◌, map, take}
use Rattle.dt_program.specs.Program.{form_of_clause}
use Rattle.dt_ecb.specs.Forms.{form_of_shape}
use Rattle.dt_ecb.specs.Shapes.{uses_of}
use Rattle.dt_ecb.proofs.shapes.Shapes.after.Given as goal

abbrev pub invariant-loop-clause : goal.invariant-loop-clause
invariant-loop-clause l = map form_of_shape l.uses.items
    ≡ map form_of_shape l.self.uses.items ++ uses_of (map form_of_clause (take l.clause-index l.clause-items))
