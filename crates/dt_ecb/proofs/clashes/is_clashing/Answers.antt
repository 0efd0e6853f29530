-- One test on uses that stand in two rows.
use Rattle.std.proofs.Common.{◌∙◌, ◌||◌, sym, ap}
use Rattle.std.specs.List.{list_any}
use Rattle.dt_ecb.specs.Forms.{form_of_shape}
use Rattle.dt_ecb.specs.Shapes.{clash}
use Rattle.dt_ecb.proofs.ClashLemmas.{clashes_parts}
use Rattle.dt_ecb.proofs.clashes.is_clashing.Goals as goal

pub returns-then-any_clashes : goal.returns-then-any_clashes
returns-then-any_clashes c =
    let one = form_of_shape c.args.one.now in
    let earlier = c.args.earlier.now in
    c.if-any_clashes.true
    ∙ sym (clashes_parts c.args.accepted.now earlier one
    ∙ ap (λ b. b || list_any (λ other. clash (form_of_shape other) one) earlier)
    (sym c.any_clashes.ensures ∙ c.if-any_clashes.true))

pub returns-else-any_clashes : goal.returns-else-any_clashes
returns-else-any_clashes c =
    let one = form_of_shape c.args.one.now in
    let earlier = c.args.earlier.now in
    c.any_clashes-else-any_clashes.ensures
    ∙ sym (clashes_parts c.args.accepted.now earlier one
    ∙ ap (λ b. b || list_any (λ other. clash (form_of_shape other) one) earlier)
    (sym c.any_clashes.ensures ∙ c.if-any_clashes.false))
