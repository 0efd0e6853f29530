-- What the proof of `process_of` is told at its goals.
use Rattle.std.proofs.Common.{◌+◌, ◌≡◌, ◌≢◌, ◌∙◌, ◌^◌, ℕ, List, Option, Some, All, ap, sym, subst, map, arith}
use Rattle.std.proofs.Common.{inl, inr, ◌<◌, length}
use Rattle.std.specs.Prelude.{is_some}
use Rattle.std.proofs.lemmas.Option.{MatchOption-at_some}
use Rattle.dt_machine.specs.Found.{IsFoundOfProcess}
use Rattle.serde_json.specs.View.{view}
use Rattle.dt_cred.specs.declared.account.Process.{Process}
use Rattle.dt_machine.specs.Rows.{ProcessRow, process_row, process, number_in, IsGivenBelow, IsExecname}
use Rattle.dt_machine.specs.laws.Soundness.{below_some}
use Rattle.dt_machine.proofs.ByPid.{indexed, seen, unseen, none_of}
use Rattle.dt_machine.proofs.Exits.{missed, refused_with}
use Rattle.dt_machine.proofs.processes.process_of.Goals as goal
use Rattle.dt_machine.specs.Limits.{processes_max, pid_max}

same : {pid pid' uid uid' : ℕ} {name name' : List ℕ} → pid ≡ pid' → uid ≡ uid' → name ≡ name'
    → ◌≡◌ {A = Process} (record { pid = pid; uid = uid; execname = name })
    (record { pid = pid'; uid = uid'; execname = name' })
same p q r = λ i. record { pid = p i; uid = q i; execname = r i }

pub returns-then-is_some : goal.returns-then-is_some
returns-then-is_some c rows e known indexes =
    let row = process_row (view c.args.row.now) in
    let pid = c.in_ok-pid.pid in
    let told = MatchOption-at_some _ _ _ c.in_ok-pid.ensures.ok_part c.pid_of.ensures in
    let given : row.pid ≡ Some pid = sym c.unsigned_at.ensures ∙ below_some (pid_max + 1) c.unsigned_at.result told.0
    ∙ ap Some (sym told.1) in
    let P : Option ℕ → Type 0 = λ number. All (λ (earlier : ProcessRow). earlier.pid ≢ number) rows in
    let found = sym (indexed c.args.by_pid.now (map process rows) indexes pid)
    ∙ ap is_some (sym c.place_of.ensures) ∙ sym c.is_some.ensures ∙ c.if-is_some.true in
    let few : length rows < processes_max = omega arith in
    inr (few, inl ((λ right. seen rows pid known found (subst P given right.1)), c.has-then-is_some.ensures))

pub returns-in_err-uid : goal.returns-in_err-uid
returns-in_err-uid c rows e known indexes =
    let row = process_row (view c.args.row.now) in
    let pid = c.in_ok-pid.pid in
    let told = MatchOption-at_some _ _ _ c.in_ok-pid.ensures.ok_part c.pid_of.ensures in
    let given : row.pid ≡ Some pid = sym c.unsigned_at.ensures ∙ below_some (pid_max + 1) c.unsigned_at.result told.0
    ∙ ap Some (sym told.1) in
    let P : Option ℕ → Type 0 = λ number. All (λ (earlier : ProcessRow). earlier.pid ≢ number) rows in
    let missing = sym (indexed c.args.by_pid.now (map process rows) indexes pid)
    ∙ ap is_some (sym c.place_of.ensures) ∙ sym c.is_some.ensures ∙ c.if-is_some.false in
    let B : Option ℕ → Type 0 = IsGivenBelow (pid_max + 1) in
    let U : Option ℕ → Type 0 = IsGivenBelow (2 ^ 32) in
    let N : List ℕ → Type 0 = IsExecname in
    let numbered : IsGivenBelow (pid_max + 1) row.pid × All (λ (earlier : ProcessRow). earlier.pid ≢ row.pid) rows =
    (subst B c.unsigned_at.ensures told.0, subst P (sym given) (unseen rows pid missing)) in
    let few : length rows < processes_max = omega arith in
    let m = missed c.u32_of.result c.has-3.result c.in_err-uid.field-0.0 _ _ c.u32_of.ensures c.in_err-uid.ensures.value in
    refused_with _ (IsFoundOfProcess c.args.before rows row) c.from_residual-in_err-uid.result c.in_err-uid.field-0.0
    c.from_residual-in_err-uid.ensures.1
    (inr (few, inr (numbered, inl ((λ uid. m.0 (subst U (sym c.unsigned_at-2.ensures) uid)), m.1 ∙ c.has-3.ensures))))

pub returns-in_err-execname : goal.returns-in_err-execname
returns-in_err-execname c rows e known indexes =
    let row = process_row (view c.args.row.now) in
    let pid = c.in_ok-pid.pid in
    let told = MatchOption-at_some _ _ _ c.in_ok-pid.ensures.ok_part c.pid_of.ensures in
    let given : row.pid ≡ Some pid = sym c.unsigned_at.ensures ∙ below_some (pid_max + 1) c.unsigned_at.result told.0
    ∙ ap Some (sym told.1) in
    let P : Option ℕ → Type 0 = λ number. All (λ (earlier : ProcessRow). earlier.pid ≢ number) rows in
    let missing = sym (indexed c.args.by_pid.now (map process rows) indexes pid)
    ∙ ap is_some (sym c.place_of.ensures) ∙ sym c.is_some.ensures ∙ c.if-is_some.false in
    let B : Option ℕ → Type 0 = IsGivenBelow (pid_max + 1) in
    let U : Option ℕ → Type 0 = IsGivenBelow (2 ^ 32) in
    let N : List ℕ → Type 0 = IsExecname in
    let numbered : IsGivenBelow (pid_max + 1) row.pid × All (λ (earlier : ProcessRow). earlier.pid ≢ row.pid) rows =
    (subst B c.unsigned_at.ensures told.0, subst P (sym given) (unseen rows pid missing)) in
    let few : length rows < processes_max = omega arith in
    let uid = MatchOption-at_some _ _ _ c.in_ok-uid.ensures.ok_part c.u32_of.ensures in
    let name : c.as_bytes.result.now ≡ row.execname = c.as_bytes.ensures.value ∙ c.text_at.ensures in
    let m = missed c.execname_of.result c.has-4.result c.in_err-execname.field-0.0 _ _ c.execname_of.ensures
    c.in_err-execname.ensures.value in
    refused_with _ (IsFoundOfProcess c.args.before rows row) c.from_residual-in_err-execname.result
    c.in_err-execname.field-0.0 c.from_residual-in_err-execname.ensures.1
    (inr (
      few,
      inr (
        numbered,
        inr (
          subst U c.unsigned_at-2.ensures uid.0,
          inl ((λ named. m.0 (subst N (sym name) named)), m.1 ∙ c.has-4.ensures),
        ),
      ),
    ))

pub returns : goal.returns
returns c rows e known indexes =
    let row = process_row (view c.args.row.now) in
    let pid = c.in_ok-pid.pid in
    let told = MatchOption-at_some _ _ _ c.in_ok-pid.ensures.ok_part c.pid_of.ensures in
    let given : row.pid ≡ Some pid = sym c.unsigned_at.ensures ∙ below_some (pid_max + 1) c.unsigned_at.result told.0
    ∙ ap Some (sym told.1) in
    let P : Option ℕ → Type 0 = λ number. All (λ (earlier : ProcessRow). earlier.pid ≢ number) rows in
    let missing = sym (indexed c.args.by_pid.now (map process rows) indexes pid)
    ∙ ap is_some (sym c.place_of.ensures) ∙ sym c.is_some.ensures ∙ c.if-is_some.false in
    let B : Option ℕ → Type 0 = IsGivenBelow (pid_max + 1) in
    let U : Option ℕ → Type 0 = IsGivenBelow (2 ^ 32) in
    let N : List ℕ → Type 0 = IsExecname in
    let numbered : IsGivenBelow (pid_max + 1) row.pid × All (λ (earlier : ProcessRow). earlier.pid ≢ row.pid) rows =
    (subst B c.unsigned_at.ensures told.0, subst P (sym given) (unseen rows pid missing)) in
    let uid = MatchOption-at_some _ _ _ c.in_ok-uid.ensures.ok_part c.u32_of.ensures in
    let named = MatchOption-at_some _ _ _ c.in_ok-execname.ensures.ok_part c.execname_of.ensures in
    let name : c.as_bytes.result.now ≡ row.execname = c.as_bytes.ensures.value ∙ c.text_at.ensures in (
      record {
        few = omega arith;
        pid = numbered.0;
        new = numbered.1;
        uid = subst U c.unsigned_at-2.ensures uid.0;
        named = subst N name named.0;
      },
      same (ap number_in (sym given)) (uid.1 ∙ ap number_in c.unsigned_at-2.ensures) (named.1 ∙ name),
      none_of _ missing,
    )
