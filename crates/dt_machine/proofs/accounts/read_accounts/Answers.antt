-- What the proof of `read_accounts` is told at its goals.
use Rattle.std.proofs.Common.{◌≡◌, ◌∙◌, ap, take, length, arith, ℕ, Some, sym, subst, [], ◌∷◌, ◌++◌}
use Rattle.std.proofs.lemmas.List.{length-map}
use Rattle.serde_json.specs.View.{view}
use Rattle.dt_machine.specs.declared.fault.FaultNumber.TheVariants.{Account as AccountNumber}
use Rattle.dt_machine.specs.Found.{IsFoundOfAccount}
use Rattle.dt_machine.proofs.Told.{account_wrong, missed_row}
use Rattle.dt_machine.specs.Rows.{account_row, account, IsRightAccount}
use Rattle.dt_machine.specs.Sections.{account_rows}
use Rattle.dt_machine.specs.laws.Scripts.{length-front}
use Rattle.dt_machine.proofs.Searching.{row_at, right_more, right_all, map_next}
use Rattle.dt_machine.proofs.Searching.{length-rows}
use Rattle.dt_machine.proofs.accounts.read_accounts.Goals as goal

pub returns-in-Err-clause-fault : goal.returns-in-Err-clause-fault
returns-in-Err-clause-fault c other =
    let rows = account_rows c.args.rows.now in
    let i = c.loop-value.value-index in
    let there = row_at account_row c.args.rows.now i c.value-item.result c.loop-value-test.true c.value-item.is in
    let few = length-front rows i (account_row (view c.value-item.result)) there in
    let at : i ≡ c.len.result = omega (
      arith,
      few,
      ap length c.loop-value.invariant.read,
      length-map (take i rows) account,
    ) in
    let row = account_row (view c.value-item.result) in
    let before = take i rows in
    let counted : length c.as_slice.result.now ≡ i = omega (arith, at, ap length c.as_slice.ensures.value) in
    let F : ℕ → Type 0 = λ n. IsFoundOfAccount n before row c.in-Err.found in
    let told = subst F counted (c.in-Err.ensures before (c.as_slice.ensures.value ∙ c.loop-value.invariant.read)) in
    let E : ℕ → Type 0 = λ n. c.at_row.result
    ≡ record { number = AccountNumber; cpu = 0; row = n; found = Some c.in-Err.found } in
    missed_row AccountNumber IsRightAccount IsFoundOfAccount rows i row c.in-Err.found c.at_row.result
    (subst E (sym at) c.at_row.ensures) c.loop-value.invariant.right there
    (account_wrong i before row c.in-Err.found told) told

pub loop-value-preserved : goal.loop-value-preserved
loop-value-preserved c =
    let rows = account_rows c.args.rows.now in
    let i = c.loop-value.value-index in
    let row = account_row (view c.value-item.result) in
    let there = row_at account_row c.args.rows.now i c.value-item.result c.loop-value-test.true c.value-item.is in
    let right = c.in-Ok.ensures (take i rows) (c.as_slice.ensures.value ∙ c.loop-value.invariant.read) in
    record {
      few = omega (arith, right.0.few, length-front rows i row there);
      right = right_more IsRightAccount rows i row c.loop-value.invariant.right there right.0;
      read = c.in_ok-push-in-Ok.ensures.items ∙ ap (λ found. c.loop-value.accounts.items ++ found ∷ []) right.1
          ∙ map_next account rows i row c.loop-value.accounts.items there c.loop-value.invariant.read;
    }

pub returns-clause-right : goal.returns-clause-right
returns-clause-right c =
    right_all IsRightAccount (account_rows c.args.rows.now) c.loop-value.value-index
    (omega (arith, length-rows account_row c.args.rows.now, c.loop-value-test.false)) c.loop-value.invariant.right
