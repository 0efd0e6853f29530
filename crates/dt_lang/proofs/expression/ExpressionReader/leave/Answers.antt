-- What is to be shown of `leave`.
use Rattle.std.proofs.Common.{List, sym, ap, ◌∙◌, refl}
use Rattle.dt_expr.specs.Form.{form_of}
use Rattle.dt_lang.specs.machine.ExpressionState.{PendingForm, Closed, close, leave}
use Rattle.dt_lang.specs.machine.ExpressionView.{pending_forms}
use Rattle.dt_lang.proofs.PendingLemmas.{close_opened, close_all, leave_opened}
use Rattle.dt_lang.proofs.expression.ExpressionReader.leave.Goals as goal

pub returns-then-not-has_opened : goal.returns-then-not-has_opened
returns-then-not-has_opened c =
    let closed = close 0 (pending_forms c.args.self.now.pending) (form_of c.args.form) in (
      ap (λ (l : List PendingForm). leave l closed.form)
          (close_all (pending_forms c.args.self.now.pending) (form_of c.args.form)
          (sym c.has_opened.ensures ∙ c.if-not-has_opened.true)),
      refl,
    )

pub pop_opened-self-requires : goal.pop_opened-self-requires
pop_opened-self-requires c =
    let on = close_opened (pending_forms c.args.self.now.pending) (form_of c.args.form)
    (sym c.has_opened.ensures ∙ c.if-not-has_opened.false) in
    (on.0, on.1, sym (ap (λ (x : Closed). x.pending) c.in_ok-form.ensures) ∙ on.2)

pub returns : goal.returns
returns c =
    leave_opened (pending_forms c.args.self.now.pending) (pending_forms c.pop_opened-self.new.self) (form_of c.args.form)
    (form_of c.in_ok-form.form) c.pop_opened-self.result (pending_forms c.close.new.self) c.in_ok-form.ensures
    c.pop_opened-self.ensures
