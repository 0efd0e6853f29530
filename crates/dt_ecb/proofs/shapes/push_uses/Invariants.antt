-- The uses of the statements so far.
use Rattle.std.proofs.Common.{◌≡◌, ◌++◌, map, take}
use Rattle.std.specs.List.{flat_map}
use Rattle.dt_program.specs.Program.{form_of_statement}
use Rattle.dt_ecb.specs.Forms.{form_of_shape}
use Rattle.dt_ecb.specs.Shapes.{used_by}
use Rattle.dt_ecb.proofs.shapes.push_uses.Given as goal

abbrev pub invariant-loop-statement : goal.invariant-loop-statement
invariant-loop-statement l = map form_of_shape l.uses.items
    ≡ map form_of_shape l.fn.uses.items
    ++ flat_map used_by (map form_of_statement (take l.statement-index l.statements))
