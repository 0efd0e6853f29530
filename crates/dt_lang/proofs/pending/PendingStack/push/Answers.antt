-- What is to be shown of `push`.
use Rattle.std.proofs.Common.{List, map, reverse, ap, ◌∙◌}
use Rattle.dt_lang.specs.declared.pending.PendingOperator.{PendingOperator}
use Rattle.dt_lang.specs.machine.ExpressionView.{pending_form, pending_forms}
use Rattle.dt_lang.proofs.PendingLemmas.{shown_push}
use Rattle.dt_lang.proofs.pending.PendingStack.push.Goals as goal

pub returns : goal.returns
unfolding pending_forms
returns c =
    ap (λ (l : List PendingOperator). reverse (map pending_form l)) c.in_ok-push.ensures.items
    ∙ shown_push c.args.self.now.pending.items c.args.top
