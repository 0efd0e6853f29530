-- Private to the proofs.
-- What contracts see of a reader of expressions.
use Rattle.std.specs.Prelude.{List, map, reverse}
use Rattle.dt_expr.specs.Form.{form_of}
use Rattle.dt_lang.specs.declared.expression.ExpressionReader.{ExpressionReader}
use Rattle.dt_lang.specs.declared.expression.Hand.{Hand}
use Rattle.dt_lang.specs.declared.expression.Hand.TheVariants as hand
use Rattle.dt_lang.specs.declared.pending.PendingOperator.{PendingOperator}
use Rattle.dt_lang.specs.declared.pending.PendingOperator.TheVariants as kind
use Rattle.dt_lang.specs.declared.pending.PendingStack.{PendingStack}
use Rattle.dt_lang.specs.machine.ExpressionState.{PendingForm, opened, before, after, HandForm, nothing, self_read, arrow_read, whole, lone, compares, State}

abbrev pub pending_form : PendingOperator → PendingForm
pending_form (kind.Opened divides) = opened divides
pending_form (kind.Before op) = before op
pending_form (kind.After left op) = after (form_of left.value) op

-- all that is pending, the last first
unfoldable pub pending_forms : PendingStack → List PendingForm
pending_forms s = reverse (map pending_form s.pending.items)

abbrev pub hand_of : Hand → HandForm
hand_of hand.Nothing = nothing
hand_of hand.ThreadLocal = self_read
hand_of hand.Arrow = arrow_read
hand_of (hand.Whole level e) = whole level (form_of e)
hand_of (hand.Lone a) = lone a
hand_of (hand.Compares op a) = compares op a

-- the state of a reader
abbrev pub state_of : ExpressionReader → State
state_of r = record { divides = r.divides; pending = pending_forms r.pending; hand = hand_of r.hand }
