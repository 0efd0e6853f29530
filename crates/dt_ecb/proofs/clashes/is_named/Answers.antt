-- One test on uses that stand in two rows.
use Rattle.std.proofs.Common.{◌∙◌, ◌||◌, sym, ap}
use Rattle.std.specs.List.{list_any}
use Rattle.std.specs.Str.{bytes_eq}
use Rattle.dt_ecb.specs.Forms.{form_of_shape}
use Rattle.dt_ecb.proofs.ClashLemmas.{named_parts}
use Rattle.dt_ecb.proofs.clashes.is_named.Goals as goal

pub returns-then-any_namesake : goal.returns-then-any_namesake
returns-then-any_namesake c =
    let one = form_of_shape c.args.one.now in
    let later = c.args.later.now in
    c.if-any_namesake.true
    ∙ sym (named_parts one c.args.uses.now later
    ∙ ap (λ b. b || list_any (λ other. bytes_eq one.name (form_of_shape other).name) later)
    (sym c.any_namesake.ensures ∙ c.if-any_namesake.true))

pub returns-else-any_namesake : goal.returns-else-any_namesake
returns-else-any_namesake c =
    let one = form_of_shape c.args.one.now in
    let later = c.args.later.now in
    c.any_namesake-else-any_namesake.ensures
    ∙ sym (named_parts one c.args.uses.now later
    ∙ ap (λ b. b || list_any (λ other. bytes_eq one.name (form_of_shape other).name) later)
    (sym c.any_namesake.ensures ∙ c.if-any_namesake.false))
