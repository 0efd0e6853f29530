-- The ECBs of one clause more, or it takes effect on no probe.
use Rattle.std.proofs.Common.{◌+◌, List, map, length, refl, subst, arith}
use Rattle.std.proofs.lemmas.Bool.{eq-eqb, ne_eqb}
use Rattle.dt_program.specs.Program.{form_of_clause}
use Rattle.dt_program.specs.declared.clause.Clause.{Clause}
use Rattle.dt_ecb.specs.Enable.{IsFirstSuch, is_unmatched}
use Rattle.dt_ecb.specs.Matching.{matched}
use Rattle.dt_ecb.proofs.FirstLemmas.{first_found, none_more}
use Rattle.dt_ecb.proofs.PlaceLemmas.{clause_more, count_added}
use Rattle.dt_ecb.proofs.ecbs.ecbs_of.Goals as goal

pub returns-then-len-before-clause-unmatched : goal.returns-then-len-before-clause-unmatched
returns-then-len-before-clause-unmatched c =
    let account = c.args.account.now in
    let registry = c.args.machine.now.registry in
    let clause = c.clause-item.result in
    let added = count_added account registry _ c.loop-place.place (form_of_clause clause) c.loop-place.ecbs.items
    c.push_matched.new.ecbs.items c.in_ok-push_matched.ensures.value in
    let P : List Clause → Type 0 =
    λ cs. IsFirstSuch (is_unmatched account registry) (map form_of_clause cs) (c.loop-place.place + 1) in (
      c.loop-place.place + 1,
      refl,
      subst P c.deref-clause-items.ensures.value
          (first_found (is_unmatched account registry) form_of_clause c.deref-clause-items.result.now
          c.loop-place.place clause c.loop-place-test.true c.clause-item.is c.loop-place.invariant.matched
          (eq-eqb (length (matched account registry (form_of_clause clause))) 0
          (omega (arith, added, c.len.ensures, c.len-before.ensures, c.if-len-before.true)))),
    )

pub loop-place-preserved : goal.loop-place-preserved
loop-place-preserved c =
    let account = c.args.account.now in
    let registry = c.args.machine.now.registry in
    let clause = c.clause-item.result in
    let added = count_added account registry _ c.loop-place.place (form_of_clause clause) c.loop-place.ecbs.items
    c.push_matched.new.ecbs.items c.in_ok-push_matched.ensures.value in
    record {
      value =
          clause_more account registry c.args.next_epid c.loop-place.place c.deref-clause-items.result.now clause
          c.loop-place.ecbs.items c.push_matched.new.ecbs.items c.loop-place-test.true c.clause-item.is
          c.loop-place.invariant.value c.in_ok-push_matched.ensures.value;
      few = omega (arith, c.in_ok-push_matched.ensures.few, c.loop-place.invariant.few);
      matched =
          none_more (is_unmatched account registry) form_of_clause c.deref-clause-items.result.now c.loop-place.place
          clause c.loop-place-test.true c.clause-item.is c.loop-place.invariant.matched
          (ne_eqb (length (matched account registry (form_of_clause clause))) 0
          (λ none. c.if-len-before.false (omega (arith, added, none, c.len.ensures, c.len-before.ensures))));
    }
