-- The kinds so far are the same, so the answer is that of what is left.
use Rattle.std.proofs.Common.{◌≡◌, length, map, drop}
use Rattle.dt_ecb.specs.Forms.{form_of_kind}
use Rattle.dt_ecb.specs.Shapes as spec
use Rattle.dt_ecb.proofs.shape.same_kinds.Given as goal

abbrev pub invariant-loop-i : goal.invariant-loop-i
invariant-loop-i l = record {
  long : length l.kinds ≡ length l.others;
  left : spec.same_kinds (map form_of_kind l.kinds) (map form_of_kind l.others)
      ≡ spec.same_kinds (map form_of_kind (drop l.i l.kinds)) (map form_of_kind (drop l.i l.others));
}
