-- What is to be shown of `finish`.
use Rattle.std.proofs.Common.{List, sym, ap, ◌∙◌, refl, inl, inr}
use Rattle.dt_expr.specs.Form.{form_of}
use Rattle.dt_lang.specs.machine.ExpressionState.{PendingForm, nothing, self_read, arrow_read, compares, number_alone, text_alone}
use Rattle.dt_lang.specs.machine.ExpressionView.{pending_forms, hand_of, state_of}
use Rattle.dt_lang.proofs.PendingLemmas.{done_whole, done_lone, done_waits, number_waits, text_waits}
use Rattle.dt_lang.proofs.expression.ExpressionReader.finish.Goals as goal

pub returns-then-is_empty : goal.returns-then-is_empty
returns-then-is_empty c =
    let whole = done_whole (state_of c.args.self.now) c.in-Whole.field-0 (form_of c.in-Whole.form)
    (form_of c.in_ok-form-in-Whole.form) (pending_forms c.close.new.self)
    (ap hand_of (sym c.in-Whole.ensures.value)) c.in_ok-form-in-Whole.ensures in
    sym (whole ∙ ap (λ (l : List PendingForm). number_alone l (form_of c.in_ok-form-in-Whole.form))
    (c.is_empty.ensures.0 c.if-is_empty.true))

pub returns-else-is_empty : goal.returns-else-is_empty
returns-else-is_empty c =
    let whole = done_whole (state_of c.args.self.now) c.in-Whole.field-0 (form_of c.in-Whole.form)
    (form_of c.in_ok-form-in-Whole.form) (pending_forms c.close.new.self)
    (ap hand_of (sym c.in-Whole.ensures.value)) c.in_ok-form-in-Whole.ensures in
    sym (whole ∙ number_waits (pending_forms c.close.new.self) (form_of c.in_ok-form-in-Whole.form)
    (λ e. let h = c.is_empty.ensures.1 e in cc (h, c.if-is_empty.false)))

pub returns-then-is_empty-2 : goal.returns-then-is_empty-2
returns-then-is_empty-2 c =
    let lone = done_lone (state_of c.args.self.now) c.in-Lone.text (ap hand_of (sym c.in-Lone.ensures.value)) in
    sym (lone ∙ ap (λ (l : List PendingForm). text_alone l c.in-Lone.text)
    (c.is_empty-in-Lone.ensures.0 c.if-is_empty-2.true))

pub returns-else-is_empty-2 : goal.returns-else-is_empty-2
returns-else-is_empty-2 c =
    let lone = done_lone (state_of c.args.self.now) c.in-Lone.text (ap hand_of (sym c.in-Lone.ensures.value)) in
    sym (lone ∙ text_waits (pending_forms c.args.self.now.pending) c.in-Lone.text
    (λ e. let h = c.is_empty-in-Lone.ensures.1 e in cc (h, c.if-is_empty-2.false)))

pub returns-in-Nothing : goal.returns-in-Nothing
returns-in-Nothing c =
    let held = ap hand_of (sym c.replace.ensures.value) in
    elim c.in-Nothing.is [
      | inl e ↦ sym (done_waits (state_of c.args.self.now) nothing (held ∙ ap hand_of e) (λ pending. refl))
      | inr (inl e) ↦ sym (done_waits (state_of c.args.self.now) self_read (held ∙ ap hand_of e) (λ pending. refl))
      | inr (inr (inl e)) ↦ sym (done_waits (state_of c.args.self.now) arrow_read (held ∙ ap hand_of e) (λ pending. refl))
      | inr (inr (inr e)) ↦ sym (done_waits (state_of c.args.self.now) (compares e.0 e.1) (held ∙ ap hand_of e.2) (λ pending. refl))
    ]
