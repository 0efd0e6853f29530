-- The kinds of the keys so far.
use Rattle.std.proofs.Common.{◌≡◌, map, take}
use Rattle.dt_program.specs.Program.{form_of_argument}
use Rattle.dt_ecb.specs.Forms.{form_of_kind}
use Rattle.dt_ecb.specs.Shapes.{kind_of}
use Rattle.dt_ecb.proofs.shape.Shape.of.Given as goal

abbrev pub invariant-loop-key : goal.invariant-loop-key
invariant-loop-key l =
    map form_of_kind l.keys.items ≡ map kind_of (map form_of_argument (take l.key-index l.key-items))
