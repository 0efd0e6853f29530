-- What is to be shown of `last`.
use Rattle.std.proofs.Common.{◌-◌, List, length, ap, ◌∙◌}
use Rattle.std.specs.List.{slice_get}
use Rattle.dt_lang.specs.declared.pending.PendingOperator.{PendingOperator}
use Rattle.dt_lang.specs.machine.ExpressionView.{pending_forms}
use Rattle.dt_lang.proofs.PendingLemmas.{last_shown}
use Rattle.dt_lang.proofs.pending.PendingStack.last.Goals as goal

pub returns : goal.returns
unfolding pending_forms
returns c = last_shown c.args.self.now.pending.items c.last.result
    (c.last.ensures.value ∙ ap (λ (l : List PendingOperator). slice_get l (length l - 1)) c.deref.ensures.value)
