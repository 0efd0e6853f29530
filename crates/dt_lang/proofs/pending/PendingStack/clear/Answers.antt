-- What is to be shown of `clear`.
use Rattle.std.proofs.Common.{List, map, reverse, ap}
use Rattle.dt_lang.specs.declared.pending.PendingOperator.{PendingOperator}
use Rattle.dt_lang.specs.machine.ExpressionView.{pending_form, pending_forms}
use Rattle.dt_lang.proofs.pending.PendingStack.clear.Goals as goal

pub returns : goal.returns
unfolding pending_forms
returns c = ap (λ (l : List PendingOperator). reverse (map pending_form l)) c.clear.ensures.items
