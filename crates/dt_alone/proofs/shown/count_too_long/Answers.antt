-- One thing more came, or nothing.
use Rattle.std.proofs.Common.{◌∷◌, [], ◌++◌, cond, length, take, ap, ◌∙◌, arith}
use Rattle.std.proofs.lemmas.Bool.{le-ltb, lt-ltb}
use Rattle.std.proofs.lemmas.List.{append-nil, length_push}
use Rattle.dt_alone.specs.Happened.{all_to}
use Rattle.dt_buffer.specs.Ending.{too_long}
use Rattle.dt_buffer.specs.History.{attempts}
use Rattle.dt_alone.proofs.Showing.{all_more, no_attempts, too_long_more}
use Rattle.dt_alone.proofs.shown.count_too_long.Goals as goal
use Rattle.dt_alone.proofs.shown.count_too_long.Goals.{in-Put+then-bytes-size, in-Put+else-bytes-size, in_default}

pub loop-one-preserved : goal.loop-one-preserved
loop-one-preserved c =
    let size = c.args.size in
    let cpu = c.args.cpu in
    let hs = c.args.happened.now in
    let i = c.loop-one.one-index in
    let held = c.loop-one.invariant in
    let events = all_to cpu (take i hs) in
    let more = all_more cpu hs i c.one-item.result c.loop-one-test.true c.one-item.is in
    elim c.match-comes_to.branch [
      | in-Put+then-bytes-size w ↦
          let m = w.in-Put.bytes.now in
          let all = ap (λ es. too_long size (attempts es)) (more _ w.in-Put.ensures)
          ∙ too_long_more size events m _
          ∙ ap (λ b. too_long size (attempts events) ++ cond b (m ∷ []) [])
          (lt-ltb size (length m) w.if-bytes-size.true) in
          record {
            counted = omega (
              arith,
              w.count-is,
              held.counted,
              ap length all,
              length_push (too_long size
                  (attempts events)) m,
            );
            few = omega (arith, w.count-is, held.few);
          }
      | in-Put+else-bytes-size w ↦
          let m = w.in-Put.bytes.now in
          let all = ap (λ es. too_long size (attempts es)) (more _ w.in-Put.ensures)
          ∙ too_long_more size events m _
          ∙ ap (λ b. too_long size (attempts events) ++ cond b (m ∷ []) [])
          (le-ltb size (length m) w.if-bytes-size.false)
          ∙ append-nil (too_long size (attempts events)) in
          record {
            counted = omega (arith, w.count-is, held.counted, ap length all);
            few = omega (arith, w.count-is, held.few);
          }
      | in_default w ↦
          let all = ap (λ es. too_long size es) (ap attempts (more _ c.comes_to.ensures)
          ∙ (no_attempts c.comes_to.result w.in_default.not-Put events).0) in
          record {
            counted = omega (arith, w.count-is, held.counted, ap length all);
            few = omega (arith, w.count-is, held.few);
          }
    ]
