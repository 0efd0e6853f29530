-- What is still to be ended gives the same whole.
use Rattle.std.proofs.Common.{◌≡◌, length}
use Rattle.dt_expr.specs.Form.{form_of}
use Rattle.dt_lang.specs.machine.ExpressionState.{close}
use Rattle.dt_lang.specs.machine.ExpressionView.{pending_forms}
use Rattle.dt_lang.proofs.pending.PendingStack.close.Given as goal

abbrev pub invariant-loop-top : goal.invariant-loop-top
invariant-loop-top l =
    close l.level (pending_forms l.self) (form_of l.form) ≡ close l.level (pending_forms l.fn.self) (form_of l.fn.form)

abbrev pub decreases-loop-top : goal.decreases-loop-top
decreases-loop-top l = length (pending_forms l.self)
