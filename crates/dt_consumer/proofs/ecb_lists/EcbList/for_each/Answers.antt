-- The ECB is added to the list of its probe.
use Rattle.std.proofs.Common.{◌≡◌, ◌==◌, map, take, length, ap, arith, length-take}
use Rattle.dt_ecb.specs.declared.parts.Ecb.{Ecb}
use Rattle.dt_lang.specs.Program.{form_of_clause}
use Rattle.dt_life.specs.laws.Lists.{found_at, replaced}
use Rattle.dt_consumer.specs.TracedEcbs.{traced_among}
use Rattle.dt_consumer.specs.declared.ecb_lists.EcbList.{EcbList}
use Rattle.dt_consumer.proofs.Listing.{IsOf, few_filtered, listed_more, listed_nowhere}
use Rattle.dt_consumer.proofs.ecb_lists.EcbList.for_each.Goals as goal
use Rattle.dt_consumer.proofs.ecb_lists.EcbList.for_each.Goals.{then-probe-len+in_ok-add, else-probe-len}

pub add-requires-clause-few : goal.add-requires-clause-few
add-requires-clause-few c =
    let lists = c.loop-ecb.lists.items in
    let i = c.loop-ecb.ecb-index in
    let ecb = c.ecb-item.result in
    let own = found_at (IsOf (take i c.args.ecbs.now) ecb.probe) lists ecb.probe c.index_mut.result.now (omega arith)
    c.index_mut.ensures.value (c.loop-ecb.invariant.lists ecb.probe) in
    omega (
      arith,
      ap length own,
      few_filtered (λ (e : Ecb). e.probe == ecb.probe) (take i c.args.ecbs.now),
      length-take i c.args.ecbs.now,
    )

pub loop-ecb-preserved : goal.loop-ecb-preserved
loop-ecb-preserved c =
    let before = c.loop-ecb in
    let i = before.ecb-index in
    let ecb = c.ecb-item.result in
    let forms = map form_of_clause c.args.clauses.now in
    elim c.if-probe-len.branch [
      | then-probe-len+in_ok-add w ↦ rw w.lists-is (record {
        lists = listed_more c.args.ecbs.now i ecb (omega arith) c.ecb-item.is before.lists.items w.index_mut.result.now
            _ (omega arith) w.index_mut.ensures.value w.in_ok-add.ensures.ecbs before.invariant.lists;
        traced = replaced (λ j (l : EcbList). l.traced ≡ traced_among forms l.ecbs.items) before.lists.items ecb.probe _
            w.in_ok-add.ensures.traced (λ j other. before.invariant.traced j);
        counted = before.invariant.counted;
      })
      | else-probe-len w ↦ rw w.lists-is (record {
        lists = listed_nowhere c.args.ecbs.now i ecb (omega arith) c.ecb-item.is before.lists.items (omega arith)
            before.invariant.lists;
        traced = before.invariant.traced;
        counted = before.invariant.counted;
      })
    ]
