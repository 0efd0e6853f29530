-- What is to be shown of `has_opened`.
use Rattle.std.proofs.Common.{sym, ◌∙◌, rules, tests}
use Rattle.std.proofs.lemmas.Iterator.{YieldsList-from_slice}
use Rattle.std.proofs.lemmas.Iterator.Search.{any_from_yields_List}
use Rattle.dt_lang.specs.machine.ExpressionState.{is_opened}
use Rattle.dt_lang.specs.machine.ExpressionView.{pending_form, pending_forms}
use Rattle.dt_lang.proofs.PendingLemmas.{opened_shown}
use Rattle.dt_lang.proofs.pending.PendingStack.has_opened.Goals as goal

pub returns : goal.returns
unfolding pending_forms
returns c =
    let xs = c.args.self.now.pending.items in
    any_from_yields_List (λ x. is_opened (pending_form x)) _ _ _ c.any.ensures.ran (YieldsList-from_slice xs cc)
    (λ x b q k. search (rules, tests)) ∙ sym (opened_shown xs)
