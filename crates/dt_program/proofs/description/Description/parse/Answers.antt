-- What is to be shown of `parse`.
use Rattle.std.proofs.Common.{◌≡◌, ℕ, List, Result, Ok, Err, IfErr, IsErrAnd, subst, sym}
use Rattle.dt_names.specs.Desc.{desc_of}
use Rattle.dt_program.specs.Description.{IsDescriptionFault, here, later, of_fields, of_pattern}
use Rattle.dt_program.specs.declared.description.DescriptionFault.{DescriptionFault}
use Rattle.dt_program.specs.laws.Descriptions.{short_description}
use Rattle.dt_program.proofs.description.Description.parse.Goals as goal

passed_on : {T : Type 0} (text : List ℕ) (r : Result T DescriptionFault) (fault : DescriptionFault)
    → IsErrAnd r (λ x. x ≡ fault) → IsDescriptionFault text fault → IfErr r (IsDescriptionFault text)
passed_on text (Ok x) fault h is = absurd h
passed_on text (Err x) fault h is = subst (IsDescriptionFault text) (sym h) is

pub pattern_of-requires-2 : goal.pattern_of-requires-2
pattern_of-requires-2 c = (short_description c.args.text.now (desc_of c.in-Ok.fields) c.in-Ok.ensures.found).1.0

pub pattern_of-requires-3 : goal.pattern_of-requires-3
pattern_of-requires-3 c = (short_description c.args.text.now (desc_of c.in-Ok.fields) c.in-Ok.ensures.found).1.1.0

pub pattern_of-requires-4 : goal.pattern_of-requires-4
pattern_of-requires-4 c = (short_description c.args.text.now (desc_of c.in-Ok.fields) c.in-Ok.ensures.found).1.1.1.0

pub returns-in-Err-clause-fault : goal.returns-in-Err-clause-fault
returns-in-Err-clause-fault c = of_fields c.in-Err.fault c.in-Err.ensures.fault

pub returns-in_err-provider-clause-fault : goal.returns-in_err-provider-clause-fault
returns-in_err-provider-clause-fault c =
    passed_on c.args.text.now c.from_residual.result c.in_err-provider.field-0.0 c.from_residual.ensures.1
    (of_pattern (desc_of c.in-Ok.fields) _ c.in-Ok.ensures.found (here _ _ _ c.in_err-provider.ensures.fault))

pub returns-in_err-module-clause-fault : goal.returns-in_err-module-clause-fault
returns-in_err-module-clause-fault c =
    passed_on c.args.text.now c.from_residual-in_err-module.result c.in_err-module.field-0.0
    c.from_residual-in_err-module.ensures.1
    (of_pattern (desc_of c.in-Ok.fields) _ c.in-Ok.ensures.found
    (later _ _ _ _ c.in_ok-provider.ensures.found (here _ _ _ c.in_err-module.ensures.fault)))

pub returns-in_err-function-clause-fault : goal.returns-in_err-function-clause-fault
returns-in_err-function-clause-fault c =
    passed_on c.args.text.now c.from_residual-in_err-function.result c.in_err-function.field-0.0
    c.from_residual-in_err-function.ensures.1
    (of_pattern (desc_of c.in-Ok.fields) _ c.in-Ok.ensures.found
    (later _ _ _ _ c.in_ok-provider.ensures.found (later _ _ _ _ c.in_ok-module.ensures.found
    (here _ _ _ c.in_err-function.ensures.fault))))

pub returns-in_err-name-clause-fault : goal.returns-in_err-name-clause-fault
returns-in_err-name-clause-fault c =
    passed_on c.args.text.now c.from_residual-in_err-name.result c.in_err-name.field-0.0
    c.from_residual-in_err-name.ensures.1
    (of_pattern (desc_of c.in-Ok.fields) _ c.in-Ok.ensures.found
    (later _ _ _ _ c.in_ok-provider.ensures.found (later _ _ _ _ c.in_ok-module.ensures.found
    (later _ _ _ _ c.in_ok-function.ensures.found (here _ _ _ c.in_err-name.ensures.fault)))))
