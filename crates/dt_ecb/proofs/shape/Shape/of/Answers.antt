-- All the keys.
use Rattle.std.proofs.Common.{◌∷◌, [], List, ◌∙◌, sym, ap, map}
use Rattle.std.proofs.lemmas.List.{take_all}
use Rattle.dt_program.specs.Program.{form_of_argument, form_of_call}
use Rattle.dt_program.specs.declared.clause.Argument.{Argument}
use Rattle.dt_ecb.specs.Forms.{form_of_kind}
use Rattle.dt_ecb.specs.Shapes.{ShapeForm, FunctionForm, KeyKind, kind_of, function_of}
use Rattle.dt_ecb.proofs.shape.Shape.of.Goals as goal

pub returns : goal.returns
returns c =
    let name = c.args.aggregation.now.name in
    let make : FunctionForm → List KeyKind → List ShapeForm =
    λ f keys. record { name = name; function = f; keys = keys } ∷ [] in
    let kinds : List Argument → List KeyKind = λ keys. map kind_of (map form_of_argument keys) in
    ap (make (function_of (form_of_call c.args.aggregation.now.call)))
    (ap kinds (sym c.deref-key-items.ensures.value
    ∙ sym (take_all c.loop-key.key-index c.deref-key-items.result.now c.loop-key-test.false))
    ∙ sym c.loop-key.invariant)
    ∙ ap (λ f. make f (map form_of_kind c.loop-key.keys.items)) (sym c.function_of.ensures)
