-- Rows of different lengths differ.
use Rattle.std.proofs.Common.{map, arith}
use Rattle.std.proofs.lemmas.List.{length-map}
use Rattle.dt_ecb.specs.Forms.{form_of_kind}
use Rattle.dt_ecb.proofs.ShapeLemmas.{other_length}
use Rattle.dt_ecb.proofs.shape.same_kinds.Goals as goal

pub returns-then-kinds-others : goal.returns-then-kinds-others
returns-then-kinds-others c =
    other_length (map form_of_kind c.args.kinds.now) (map form_of_kind c.args.others.now)
    (λ e.
    absurd
    (omega (arith, e, length-map c.args.kinds.now form_of_kind, length-map c.args.others.now form_of_kind)))
