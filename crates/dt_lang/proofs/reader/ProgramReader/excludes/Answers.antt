-- What is to be shown of `excludes`.
use Rattle.std.proofs.Common.{sym, ◌∙◌, rules, tests}
use Rattle.std.proofs.lemmas.Iterator.{YieldsList-from_slice}
use Rattle.std.proofs.lemmas.Iterator.Search.{any_from_yields_List}
use Rattle.dt_program.specs.Clause.{form_of_statement}
use Rattle.dt_program.specs.Kinds.{statement_kind, excludes}
use Rattle.dt_lang.specs.machine.Cause.{kind_begun}
use Rattle.dt_lang.proofs.KindLemmas.{any_statement}
use Rattle.dt_lang.proofs.reader.ProgramReader.excludes.Goals as goal

pub returns : goal.returns
returns c =
    let xs = c.args.self.now.statements.items in
    let later = kind_begun c.args.token.now in
    any_from_yields_List (λ x. excludes (statement_kind (form_of_statement x)) later) _ _ _ c.any.ensures.ran
    (YieldsList-from_slice xs cc) (λ x b q k. search (rules, tests)) ∙ sym (any_statement later xs)
