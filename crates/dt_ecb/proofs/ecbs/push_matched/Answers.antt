-- A probe makes an ECB, or it doesn't.
use Rattle.std.proofs.Common.{◌≡◌, ◌+◌, ◌++◌, ◌∷◌, [], List, ◌∙◌, sym, ap, length, map, arith}
use Rattle.std.specs.Global.{Vec}
use Rattle.dt_program.specs.Description.{form_of_description}
use Rattle.dt_program.specs.Program.{form_of_clause}
use Rattle.dt_ecb.specs.Matching.{is_matched}
use Rattle.dt_ecb.specs.Places.{kept_in}
use Rattle.dt_ecb.specs.declared.parts.Ecb.{Ecb}
use Rattle.dt_ecb.proofs.PlaceLemmas.{key_at, kept_push, count_grown, small_id, pushed, not_pushed}
use Rattle.dt_ecb.proofs.ecbs.push_matched.Goals as goal
use Rattle.dt_ecb.proofs.ecbs.push_matched.Goals.{then-is_matched+in_ok-push, else-is_matched}

pub invariant_of-push : goal.invariant_of-push
invariant_of-push c = record {
  known =
      small_id c.args.machine.now c.probes-probe-items.ensures.sound c.probes-probe-items.result.now
      c.probes-probe-items.ensures.value c.loop-probe.probe-index c.probe-item.result c.loop-probe-test.true
      c.probe-item.is;
}

pub loop-probe-preserved : goal.loop-probe-preserved
loop-probe-preserved c =
    let test = is_matched c.args.account.now c.args.machine.now.registry (form_of_clause c.args.clause.now) in
    let probes = c.probes-probe-items.result.now in
    let items : Vec Ecb → List Ecb = λ ecbs. ecbs.items in
    let is = c.is_matched.ensures (form_of_clause c.args.clause.now)
    (sym (c.deref-in-loop-probe.ensures.value ∙ c.in_ok-descriptions.ensures
    ∙ ap (map form_of_description) c.deref.ensures.value)) in
    elim c.if-is_matched.branch [
      | then-is_matched+in_ok-push w ↦
          let kept : map kept_in c.if-is_matched.ecbs.items ≡ map kept_in c.loop-probe.ecbs.items
          ++ ((c.args.first_epid + length c.loop-probe.ecbs.items, key_at c.args.place c.probe-item.result) ∷ []) =
          kept_push c.loop-probe.ecbs.items c.if-is_matched.ecbs.items _
          (ap items w.ecbs-is ∙ w.in_ok-push.ensures.items)
          ∙ ap
          (λ n. map kept_in c.loop-probe.ecbs.items ++ ((n, key_at c.args.place c.probe-item.result) ∷ []))
          (omega (arith, w.len.ensures)) in
          record {
            value =
                pushed c.args.first_epid c.args.place test probes c.loop-probe.probe-index c.probe-item.result
                c.loop-probe-test.true c.probe-item.is c.args.ecbs.now.items c.loop-probe.ecbs.items
                c.if-is_matched.ecbs.items c.loop-probe.invariant.value
                (sym is ∙ w.if-is_matched.true) kept;
            few = omega (
              arith,
              c.loop-probe.invariant.few,
              count_grown c.loop-probe.ecbs.items c.if-is_matched.ecbs.items _ kept,
            );
          }
      | else-is_matched w ↦
          let same = ap items w.ecbs-is in
          record {
            value =
                not_pushed c.args.first_epid c.args.place test probes c.loop-probe.probe-index c.probe-item.result
                c.loop-probe-test.true c.probe-item.is c.args.ecbs.now.items c.loop-probe.ecbs.items
                c.if-is_matched.ecbs.items c.loop-probe.invariant.value
                (sym is ∙ w.if-is_matched.false) same;
            few = omega (arith, ap length same, c.loop-probe.invariant.few);
          }
    ]
