-- What the proof of `read_probes` is told at its goals.
use Rattle.std.proofs.Common.{◌≡◌, ◌∙◌, ◌+◌, ◌-◌, ◌≤◌, ℕ, ap, sym, take, drop, length, Some, subst, codes, arith, []}
use Rattle.std.proofs.Common.{◌∷◌, ◌++◌, List}
use Rattle.std.proofs.lemmas.List.{take_all, length-drop}
use Rattle.serde_json.specs.View.{view}
use Rattle.dt_names.specs.Tuple.{SpellsTuple}
use Rattle.dt_cred.specs.declared.probe.Probe.{Probe}
use Rattle.dt_machine.specs.Given.{text_of}
use Rattle.dt_machine.specs.declared.fault.FaultNumber.TheVariants.{Probe as ProbeNumber}
use Rattle.dt_machine.specs.Found.{IsFoundOfProbe}
use Rattle.dt_machine.proofs.Told.{probe_wrong, missed_row}
use Rattle.dt_machine.specs.Rows.{AreProbes, IsRightProbe}
use Rattle.dt_machine.specs.Sections.{texts}
use Rattle.dt_machine.specs.laws.Spelling.{length-probes}
use Rattle.dt_machine.proofs.Spelling.{own_dropped, probes_push}
use Rattle.dt_machine.specs.laws.Scripts.{length-front}
use Rattle.dt_machine.proofs.Searching.{row_at, right_more, right_all, take_next}
use Rattle.dt_machine.proofs.Searching.{length-rows}
use Rattle.dt_machine.proofs.probes.read_probes.Goals as goal

-- the slice after the two own probes
after_own : (probes : List Probe) (shown : List Probe) → shown ≡ probes → 2 ≤ length shown
    → take (length shown - 2) (drop 2 shown) ≡ drop 2 probes
after_own probes shown e h =
    take_all (length shown - 2) (drop 2 shown) (omega (arith, length-drop 2 shown)) ∙ ap (drop 2) e

pub overflow_cast-len : goal.overflow_cast-len
overflow_cast-len c =
    let rows = texts c.args.rows.now in
    let i = c.loop-value.value-index in
    let there = row_at text_of c.args.rows.now i c.value-item.result c.loop-value-test.true c.value-item.is in
    let few = length-front rows i (text_of (view c.value-item.result)) there in
    let counted = length-probes 1 (codes "dtrace:::BEGIN" ∷ codes "dtrace:::END" ∷ take i rows)
    c.loop-value.probes.items c.loop-value.invariant.are in
    omega arith

pub returns-in-Err-clause-fault : goal.returns-in-Err-clause-fault
returns-in-Err-clause-fault c other =
    let rows = texts c.args.rows.now in
    let i = c.loop-value.value-index in
    let text = text_of (view c.value-item.result) in
    let there = row_at text_of c.args.rows.now i c.value-item.result c.loop-value-test.true c.value-item.is in
    let few = length-front rows i text there in
    let counted = length-probes 1 (codes "dtrace:::BEGIN" ∷ codes "dtrace:::END" ∷ take i rows)
    c.loop-value.probes.items c.loop-value.invariant.are in
    let dropped = own_dropped (codes "dtrace:::BEGIN") (codes "dtrace:::END")
    (take i rows) c.loop-value.probes.items c.loop-value.invariant.are in
    let spelled : c.as_bytes.result.now ≡ text = c.as_bytes.ensures.value ∙ c.text_of.ensures in
    let shown = after_own c.loop-value.probes.items c.as_slice.result.now c.as_slice.ensures.value (omega arith) in
    let A : List Probe → Type 0 = AreProbes 3 (take i rows) in
    let found = c.in-Err.ensures (take i rows) (subst A (sym shown) dropped) in
    let listed = c.args.processes.now in
    let n = length (take (length c.as_slice.result.now - 2) (drop 2 c.as_slice.result.now)) in
    let shorter : n ≡ i = omega (arith, ap length shown, length-drop 2 c.loop-value.probes.items) in
    let F : List ℕ → Type 0 = λ t. IsFoundOfProbe listed n (take i rows) t c.in-Err.found in
    let G : ℕ → Type 0 = λ n. IsFoundOfProbe listed n (take i rows) text c.in-Err.found in
    let told = subst G shorter (subst F spelled found) in
    let at : c.len.result - 2 ≡ i = omega arith in
    let E : ℕ → Type 0 = λ n. c.at_row.result
    ≡ record { number = ProbeNumber; cpu = 0; row = n; found = Some c.in-Err.found } in
    missed_row ProbeNumber (IsRightProbe listed) (IsFoundOfProbe listed) rows i text c.in-Err.found c.at_row.result
    (subst E at c.at_row.ensures) c.loop-value.invariant.right there
    (probe_wrong listed i (take i rows) text c.in-Err.found told) told

pub loop-value-preserved : goal.loop-value-preserved
loop-value-preserved c =
    let rows = texts c.args.rows.now in
    let i = c.loop-value.value-index in
    let text = text_of (view c.value-item.result) in
    let begin = codes "dtrace:::BEGIN" in
    let end = codes "dtrace:::END" in
    let there = row_at text_of c.args.rows.now i c.value-item.result c.loop-value-test.true c.value-item.is in
    let few = length-front rows i text there in
    let counted = length-probes 1 (begin ∷ end ∷ take i rows) c.loop-value.probes.items c.loop-value.invariant.are in
    let dropped = own_dropped begin end (take i rows) c.loop-value.probes.items c.loop-value.invariant.are in
    let spelled : c.as_bytes.result.now ≡ text = c.as_bytes.ensures.value ∙ c.text_of.ensures in
    let shown = after_own c.loop-value.probes.items c.as_slice.result.now c.as_slice.ensures.value (omega arith) in
    let A : List Probe → Type 0 = AreProbes 3 (take i rows) in
    let found = c.in-Ok.ensures (take i rows) (subst A (sym shown) dropped) in
    let W : List ℕ → Type 0 = IsRightProbe c.args.processes.now (take i rows) in
    let S : List ℕ → Type 0 = λ t. SpellsTuple t c.in-Ok.probe.tuple in
    let right = subst W spelled found.0 in
    let number : c.in-Ok.probe.id ≡ 1 + length c.loop-value.probes.items =
    omega (arith, found.1, ap length shown, length-drop 2 c.loop-value.probes.items) in
    let pushed = probes_push 1 (begin ∷ end ∷ take i rows) c.loop-value.probes.items text c.in-Ok.probe
    c.loop-value.invariant.are number (subst S spelled found.2) found.3 in
    let T : List (List ℕ) → Type 0 = λ ts. AreProbes 1 (begin ∷ end ∷ ts)
    (c.loop-value.probes.items ++ c.in-Ok.probe ∷ []) in
    let N : List Probe → Type 0 = AreProbes 1 (begin ∷ end ∷ take (i + 1) rows) in
    record {
      few = omega (arith, right.few);
      right = right_more (IsRightProbe c.args.processes.now) rows i text c.loop-value.invariant.right there right;
      are = subst N (sym c.in_ok-push-in-Ok.ensures.items) (subst T (sym (take_next rows i text there)) pushed);
    }

pub returns-clause-right : goal.returns-clause-right
returns-clause-right c =
    right_all (IsRightProbe c.args.processes.now) (texts c.args.rows.now) c.loop-value.value-index
    (omega (arith, length-rows text_of c.args.rows.now, c.loop-value-test.false)) c.loop-value.invariant.right
