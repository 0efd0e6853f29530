-- One thing more came, or nothing.
use Rattle.std.proofs.Common.{ℕ, ◌∷◌, [], ◌++◌, cond, length, take, sym, ap, ◌∙◌}
use Rattle.std.specs.Global.{Vec}
use Rattle.std.specs.List.{concat}
use Rattle.std.proofs.lemmas.Bool.{le-leb, lt-leb}
use Rattle.std.proofs.lemmas.List.{append-nil}
use Rattle.dt_alone.specs.Happened.{all_to}
use Rattle.dt_buffer.specs.Ending.{fitting}
use Rattle.dt_buffer.specs.History.{attempts}
use Rattle.dt_buffer.specs.laws.Choices.{concat-push}
use Rattle.dt_alone.proofs.Showing.{all_more, fitting_more, no_attempts}
use Rattle.dt_alone.proofs.shown.fitting_bytes.Goals as goal
use Rattle.dt_alone.proofs.shown.fitting_bytes.Goals.{in-Put+then-bytes-size+in_ok-extend_from_slice}
use Rattle.dt_alone.proofs.shown.fitting_bytes.Goals.{in-Put+else-bytes-size, in_default}

pub loop-one-preserved : goal.loop-one-preserved
loop-one-preserved c =
    let size = c.args.size in
    let cpu = c.args.cpu in
    let hs = c.args.happened.now in
    let i = c.loop-one.one-index in
    let held = c.loop-one.invariant in
    let events = all_to cpu (take i hs) in
    let more = all_more cpu hs i c.one-item.result c.loop-one-test.true c.one-item.is in
    elim c.match-comes_to.branch [
      | in-Put+then-bytes-size+in_ok-extend_from_slice w ↦
          let m = w.in-Put.bytes.now in
          ap (λ (v : Vec ℕ). v.items) w.all-is ∙ w.in_ok-extend_from_slice.ensures.items
          ∙ ap (λ xs. xs ++ m) held ∙ sym (concat-push (fitting size (attempts events)) m)
          ∙ ap concat
          (sym (ap (λ es. fitting size (attempts es)) (more _ w.in-Put.ensures)
          ∙ fitting_more size events m _
          ∙ ap (λ b. fitting size (attempts events) ++ cond b (m ∷ []) [])
          (le-leb (length m) size w.if-bytes-size.true)))
      | in-Put+else-bytes-size w ↦
          let m = w.in-Put.bytes.now in
          ap (λ (v : Vec ℕ). v.items) w.all-is ∙ held
          ∙ ap concat
          (sym (ap (λ es. fitting size (attempts es)) (more _ w.in-Put.ensures)
          ∙ fitting_more size events m _
          ∙ ap (λ b. fitting size (attempts events) ++ cond b (m ∷ []) [])
          (lt-leb (length m) size w.if-bytes-size.false)
          ∙ append-nil (fitting size (attempts events))))
      | in_default w ↦
          ap (λ (v : Vec ℕ). v.items) w.all-is ∙ held
          ∙ ap (λ es. concat (fitting size es))
          (sym (ap attempts (more _ c.comes_to.ensures)
          ∙ (no_attempts c.comes_to.result w.in_default.not-Put events).0))
    ]
