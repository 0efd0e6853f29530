-- What is to be shown of `close`.
use Rattle.std.proofs.Common.{List, sym, ap, ◌∙◌}
use Rattle.dt_expr.specs.Form.{form_of}
use Rattle.dt_lang.specs.machine.ExpressionState.{PendingForm, Closed}
use Rattle.dt_lang.specs.machine.ExpressionView.{pending_form, pending_forms}
use Rattle.dt_lang.proofs.PendingLemmas.{close_one, close_none}
use Rattle.dt_lang.proofs.pending.PendingStack.close.Goals as goal

pub loop-top-preserved : goal.loop-top-preserved
loop-top-preserved c =
    close_one c.args.level (pending_form c.in-Some.top) (pending_forms c.loop-top.self) (pending_forms c.pop_binding.new.self)
    (form_of c.loop-top.form) (form_of c.in_ok-form.form) c.in-Some.ensures.some c.in-Some.ensures.binds
    c.in_ok-form.ensures ∙ c.loop-top.invariant

pub returns : goal.returns
returns c =
    let stops = c.in_default.ensures in
    let shape : List PendingForm → Closed = λ l. record { pending = l; form = form_of c.loop-top.form } in
    sym c.loop-top.invariant
    ∙ close_none c.args.level (pending_forms c.loop-top.self) (form_of c.loop-top.form) stops.none
    ∙ ap shape (sym stops.unchanged)
