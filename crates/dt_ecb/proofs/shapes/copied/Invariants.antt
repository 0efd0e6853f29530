-- The copies so far.
use Rattle.std.proofs.Common.{◌≡◌, map, take}
use Rattle.dt_ecb.specs.Forms.{form_of_shape}
use Rattle.dt_ecb.proofs.shapes.copied.Given as goal

abbrev pub invariant-loop-one : goal.invariant-loop-one
invariant-loop-one l = map form_of_shape l.copies.items ≡ map form_of_shape (take l.one-index l.uses)
