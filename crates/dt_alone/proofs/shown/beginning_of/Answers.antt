-- One thing more came, or nothing.
use Rattle.std.proofs.Common.{◌≡◌, ℕ, ◌+◌, ◌∷◌, List, [], ◌++◌, Bool, inl, inr, length, take, sym, ap, ◌∙◌, subst}
use Rattle.std.proofs.Common.{arith}
use Rattle.std.specs.Global.{Vec}
use Rattle.std.proofs.lemmas.List.{length-append}
use Rattle.dt_alone.specs.Happened.{all_to}
use Rattle.dt_alone.specs.Shown.{IsBeginningOf, of_kind}
use Rattle.dt_alone.specs.declared.shown.FittingRecords.{FittingRecords}
use Rattle.dt_buffer.specs.History.{attempt}
use Rattle.dt_alone.proofs.Showing.{all_more, begins_cut, begins_kept, kind_other, kind_put, no_attempts, other_bool}
use Rattle.dt_alone.proofs.Showing.{same_beginning, same_bool}
use Rattle.dt_alone.proofs.shown.beginning_of.Goals as goal
use Rattle.dt_alone.proofs.shown.beginning_of.Goals.{in-Put+then-in_end-of_end+then-not-is_cut+then-more-room+in_ok-extend_from_slice}
use Rattle.dt_alone.proofs.shown.beginning_of.Goals.{in-Put+then-in_end-of_end+then-not-is_cut+else-more-room}
use Rattle.dt_alone.proofs.shown.beginning_of.Goals.{in-Put+else-in_end-of_end}
use Rattle.dt_alone.proofs.shown.beginning_of.Goals.{else-in_end-of_end-via-then-in_end-of_end+else-not-is_cut}
use Rattle.dt_alone.proofs.shown.beginning_of.Goals.{else-in_end-of_end-via-else-in_end-of_end, in_default}

pub loop-one-preserved : goal.loop-one-preserved
loop-one-preserved c =
    let room = c.args.room in
    let cpu = c.args.cpu in
    let hs = c.args.happened.now in
    let i = c.loop-one.one-index in
    let kind = c.args.of_end in
    let held = c.loop-one.invariant in
    let events = all_to cpu (take i hs) in
    let more = all_more cpu hs i c.one-item.result c.loop-one-test.true c.one-item.is in
    let old : FittingRecords = record { bytes = c.loop-one.bytes; is_cut = c.loop-one.is_cut } in
    let next : FittingRecords = record { bytes = c.match-comes_to.bytes; is_cut = c.match-comes_to.is_cut } in
    let put : (m : List ℕ) (b : Bool) → b ≡ c.args.of_end
    → (all_to c.args.cpu (take (c.loop-one.one-index + 1) c.args.happened.now)
    ≡ all_to c.args.cpu (take c.loop-one.one-index c.args.happened.now) ++ attempt m b ∷ [])
    → of_kind c.args.of_end (all_to c.args.cpu (take c.loop-one.one-index c.args.happened.now)) ++ m ∷ []
    ≡ of_kind c.args.of_end (all_to c.args.cpu (take (c.loop-one.one-index + 1) c.args.happened.now)) =
    λ m b same e. sym (ap (of_kind kind) (e ∙ ap (λ x. events ++ attempt m x ∷ []) same) ∙ kind_put kind events m) in
    elim c.match-comes_to.branch [
      | in-Put+then-in_end-of_end+then-not-is_cut+then-more-room+in_ok-extend_from_slice w ↦
          let m = w.in-Put.more.now in
          let grown = ap (λ (v : Vec ℕ). v.items) w.bytes-is ∙ w.in_ok-extend_from_slice.ensures.items in
          record {
            begins = subst (λ rs. IsBeginningOf room rs next)
                (put m w.in-Put.in_end
                (same_bool w.in-Put.in_end kind w.if-in_end-of_end.true) (more _ w.in-Put.ensures))
                (begins_kept room (of_kind kind events) old held.begins m next w.if-not-is_cut.true
                (omega (arith, w.if-more-room.true, w.len.ensures, held.within))
                (w.is_cut-is ∙ w.if-not-is_cut.true) grown);
            within = omega (
              arith,
              ap length grown,
              length-append c.loop-one.bytes.items m,
              w.if-more-room.true,
              w.len.ensures,
              held.within,
            );
          }
      | in-Put+then-in_end-of_end+then-not-is_cut+else-more-room w ↦
          let m = w.in-Put.more.now in
          let same = ap (λ (v : Vec ℕ). v.items) w.bytes-is in
          record {
            begins = subst (λ rs. IsBeginningOf room rs next)
                (put m w.in-Put.in_end
                (same_bool w.in-Put.in_end kind w.if-in_end-of_end.true) (more _ w.in-Put.ensures))
                (begins_cut room (of_kind kind events) old held.begins m next
                (inr (omega (arith, w.if-more-room.false, w.len.ensures, held.within))) w.is_cut-is same);
            within = omega (arith, ap length same, held.within);
          }
      | in-Put+else-in_end-of_end w ↦
          let m = w.in-Put.more.now in
          let same = ap (λ (v : Vec ℕ). v.items) w.bytes-is in
          elim w.else-in_end-of_end.branch [
            | else-in_end-of_end-via-then-in_end-of_end+else-not-is_cut w' ↦ record {
              begins = subst (λ rs. IsBeginningOf room rs next)
                  (put m w.in-Put.in_end
                  (same_bool w.in-Put.in_end kind w'.if-in_end-of_end.true) (more _ w.in-Put.ensures))
                  (begins_cut room (of_kind kind events) old held.begins m next
                  (inl w'.if-not-is_cut.false) (w.is_cut-is ∙ w'.if-not-is_cut.false) same);
              within = omega (arith, ap length same, held.within);
            }
            | else-in_end-of_end-via-else-in_end-of_end w' ↦ record {
              begins = subst (λ rs. IsBeginningOf room rs next)
                  (sym (ap (of_kind kind) (more _ w.in-Put.ensures)
                  ∙ kind_other kind w.in-Put.in_end events m
                  (other_bool w.in-Put.in_end kind w'.if-in_end-of_end.false)))
                  (same_beginning room (of_kind kind events) old next held.begins w.is_cut-is same);
              within = omega (arith, ap length same, held.within);
            }
          ]
      | in_default w ↦
          let same = ap (λ (v : Vec ℕ). v.items) w.bytes-is in
          record {
            begins = subst (λ rs. IsBeginningOf room rs next)
                (sym (ap (of_kind kind) (more _ c.comes_to.ensures)
                ∙ (no_attempts c.comes_to.result w.in_default.not-Put events).1 kind))
                (same_beginning room (of_kind kind events) old next held.begins w.is_cut-is same);
            within = omega (arith, ap length same, held.within);
          }
    ]
