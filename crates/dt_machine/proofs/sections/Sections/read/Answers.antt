-- What the proof of `Sections::read` is told at its goals.
use Rattle.std.proofs.Common.{◌≡◌, ◌∙◌, ℕ, List, Some, map, length, ap, sym, subst, codes, arith, ◌∷◌}
use Rattle.serde_json.specs.View.{view}
use Rattle.dt_cred.specs.declared.account.Process.{Process as ProcessType}
use Rattle.dt_machine.specs.declared.fault.FaultNumber.TheVariants.{Shape, Cpus, Account, Process, Probe, Script}
use Rattle.dt_machine.specs.Found.{IsFoundAt, IsFoundOfAccount, IsFoundOfProcess, IsFoundOfProbe}
use Rattle.dt_machine.specs.Given.{text_of}
use Rattle.dt_machine.specs.Reading.{AllRight, AllRightIn, IsFirstFinding, IsFirstWrong, IsScriptFault, IsFoundOfScripts, Passes, accounts_in, processes_in, probes_in, scripts_in, UnlessMemory}
use Rattle.dt_machine.specs.Rows.{AccountRow, ProcessRow, FiringRow, account_row, process_row, script_rows, account}
use Rattle.dt_machine.specs.Rows.{process, AreProbes, IsRightAccount, IsRightProcess, IsRightProbe, HasRoom}
use Rattle.dt_machine.specs.Sections.{account_rows, process_rows, texts}
use Rattle.dt_machine.proofs.Exits.{passed_on}
use Rattle.dt_machine.proofs.Faults.{json_passes, one_more, first_fault}
use Rattle.dt_machine.specs.laws.Scripts.{few_rows}
use Rattle.dt_machine.proofs.Searching.{length-rows}
use Rattle.dt_machine.specs.laws.Spelling.{length-probes}
use Rattle.dt_machine.proofs.sections.Sections.read.Goals as goal
use Rattle.dt_machine.specs.Limits.{probes_max}

pub returns-in_err-accounts-clause-fault : goal.returns-in_err-accounts-clause-fault
returns-in_err-accounts-clause-fault c =
    let d = view c.args.file.now in
    let e = c.in_err-accounts.field-0.0 in
    let accounts : account_rows c.list_at.result.now ≡ accounts_in d = ap (map account_row) c.list_at.ensures in
    let W : List AccountRow → Type 0 = λ rows. IsFirstWrong IsRightAccount rows e.row in
    let T : List AccountRow → Type 0 = λ rows. IsFoundAt IsFoundOfAccount rows e.row e.found in
    let shape : Passes Shape d = c.in_default.ensures in
    let before = one_more d Cpus (one_more d Shape (json_passes d) shape) c.in-Some-cpus_of.ensures.0 in
    passed_on (λ fault. UnlessMemory fault (IsFirstFinding d fault)) c.from_residual.result e
    c.from_residual.ensures.1
    (λ other.
    let m = c.in_err-accounts.ensures.fault other in
    first_fault d e Account m.number (m.nowhere, subst W accounts m.first) (subst T accounts m.tells) before)

pub returns-in_err-processes-clause-fault : goal.returns-in_err-processes-clause-fault
returns-in_err-processes-clause-fault c =
    let d = view c.args.file.now in
    let e = c.in_err-processes.field-0.0 in
    let accounts : account_rows c.list_at.result.now ≡ accounts_in d = ap (map account_row) c.list_at.ensures in
    let processes : process_rows c.list_at-2.result.now ≡ processes_in d = ap (map process_row) c.list_at-2.ensures in
    let A : List AccountRow → Type 0 = AllRight IsRightAccount in
    let W : List ProcessRow → Type 0 = λ rows. IsFirstWrong IsRightProcess rows e.row in
    let T : List ProcessRow → Type 0 = λ rows. IsFoundAt IsFoundOfProcess rows e.row e.found in
    let shape : Passes Shape d = c.in_default.ensures in
    let before = one_more d Account (one_more d Cpus (one_more d Shape (json_passes d) shape) c.in-Some-cpus_of.ensures.0)
    (subst A accounts c.in_ok-accounts.ensures.right) in
    passed_on (λ fault. UnlessMemory fault (IsFirstFinding d fault)) c.from_residual-in_err-processes.result e
    c.from_residual-in_err-processes.ensures.1
    (λ other.
    let m = c.in_err-processes.ensures.fault other in
    first_fault d e Process m.number (m.nowhere, subst W processes m.first) (subst T processes m.tells) before)

pub returns-in_err-probes-clause-fault : goal.returns-in_err-probes-clause-fault
returns-in_err-probes-clause-fault c =
    let d = view c.args.file.now in
    let e = c.in_err-probes.field-0.0 in
    let accounts : account_rows c.list_at.result.now ≡ accounts_in d = ap (map account_row) c.list_at.ensures in
    let processes : process_rows c.list_at-2.result.now ≡ processes_in d = ap (map process_row) c.list_at-2.ensures in
    let probes : texts c.list_at-3.result.now ≡ probes_in d = ap (map text_of) c.list_at-3.ensures in
    let shown : c.as_slice.result.now ≡ map process (processes_in d) = c.as_slice.ensures.value
    ∙ c.in_ok-processes.ensures.processes ∙ ap (map process) processes in
    let A : List AccountRow → Type 0 = AllRight IsRightAccount in
    let P : List ProcessRow → Type 0 = AllRight IsRightProcess in
    let W : List (List ℕ) → Type 0 = λ rows. IsFirstWrong (IsRightProbe c.as_slice.result.now) rows e.row in
    let V : List ProcessType → Type 0 = λ ps. IsFirstWrong (IsRightProbe ps) (probes_in d) e.row in
    let T : List (List ℕ) → Type 0 = λ rows. IsFoundAt (IsFoundOfProbe c.as_slice.result.now) rows e.row e.found in
    let U : List ProcessType → Type 0 = λ ps. IsFoundAt (IsFoundOfProbe ps) (probes_in d) e.row e.found in
    let shape : Passes Shape d = c.in_default.ensures in
    let before = one_more d Process (one_more d Account
    (one_more d Cpus (one_more d Shape (json_passes d) shape) c.in-Some-cpus_of.ensures.0)
    (subst A accounts c.in_ok-accounts.ensures.right)) (subst P processes c.in_ok-processes.ensures.right) in
    passed_on (λ fault. UnlessMemory fault (IsFirstFinding d fault)) c.from_residual-in_err-probes.result e
    c.from_residual-in_err-probes.ensures.1
    (λ other.
    let m = c.in_err-probes.ensures.fault other in
    first_fault d e Probe m.number (m.nowhere, subst V shown (subst W probes m.first))
    (subst U shown (subst T probes m.tells)) before)

pub returns-in-Some-script_fault-clause-fault : goal.returns-in-Some-script_fault-clause-fault
returns-in-Some-script_fault-clause-fault c other =
    let d = view c.args.file.now in
    let e = c.in-Some-script_fault.fault in
    let accounts : account_rows c.list_at.result.now ≡ accounts_in d = ap (map account_row) c.list_at.ensures in
    let processes : process_rows c.list_at-2.result.now ≡ processes_in d = ap (map process_row) c.list_at-2.ensures in
    let probes : texts c.list_at-3.result.now ≡ probes_in d = ap (map text_of) c.list_at-3.ensures in
    let scripts : map script_rows (map view c.list_at-4.result.now) ≡ scripts_in d =
    ap (map script_rows) c.list_at-4.ensures in
    let shown : c.as_slice.result.now ≡ map process (processes_in d) = c.as_slice.ensures.value
    ∙ c.in_ok-processes.ensures.processes ∙ ap (map process) processes in
    let A : List AccountRow → Type 0 = AllRight IsRightAccount in
    let P : List ProcessRow → Type 0 = AllRight IsRightProcess in
    let W : List (List ℕ) → Type 0 = AllRight (IsRightProbe c.as_slice.result.now) in
    let V : List ProcessType → Type 0 = λ ps. AllRight (IsRightProbe ps) (probes_in d) in
    let S : List (List FiringRow) → Type 0 = λ rows. IsScriptFault c.in-Some-cpus_of.cpus rows e.cpu e.row in
    let T : List (List FiringRow) → Type 0 = λ rows. IsFoundOfScripts c.in-Some-cpus_of.cpus rows e.cpu e.found in
    let shape : Passes Shape d = c.in_default.ensures in
    let before = one_more d Probe (one_more d Process
    (one_more d Account (one_more d Cpus (one_more d Shape (json_passes d) shape) c.in-Some-cpus_of.ensures.0)
    (subst A accounts c.in_ok-accounts.ensures.right)) (subst P processes c.in_ok-processes.ensures.right))
    (subst V shown (subst W probes c.in_ok-probes.ensures.right)) in
    first_fault d e Script c.in-Some-script_fault.ensures.0
    (c.in-Some-cpus_of.cpus, c.in-Some-cpus_of.ensures.1, subst S scripts c.in-Some-script_fault.ensures.1)
    (c.in-Some-cpus_of.cpus, c.in-Some-cpus_of.ensures.1, subst T scripts c.in-Some-script_fault.ensures.2) before

pub returns-in-None-clause-ok : goal.returns-in-None-clause-ok
returns-in-None-clause-ok c =
    let d = view c.args.file.now in
    let accounts : account_rows c.list_at.result.now ≡ accounts_in d = ap (map account_row) c.list_at.ensures in
    let processes : process_rows c.list_at-2.result.now ≡ processes_in d = ap (map process_row) c.list_at-2.ensures in
    let probes : texts c.list_at-3.result.now ≡ probes_in d = ap (map text_of) c.list_at-3.ensures in
    let scripts : map script_rows (map view c.list_at-4.result.now) ≡ scripts_in d =
    ap (map script_rows) c.list_at-4.ensures in
    let listed : c.in_ok-processes.processes.items ≡ map process (processes_in d) =
    c.in_ok-processes.ensures.processes ∙ ap (map process) processes in
    let shown : c.as_slice.result.now ≡ map process (processes_in d) = c.as_slice.ensures.value ∙ listed in
    let A : List AccountRow → Type 0 = AllRight IsRightAccount in
    let P : List ProcessRow → Type 0 = AllRight IsRightProcess in
    let W : List (List ℕ) → Type 0 = AllRight (IsRightProbe c.as_slice.result.now) in
    let V : List ProcessType → Type 0 = λ ps. AllRight (IsRightProbe ps) (probes_in d) in
    let S : List (List FiringRow) → Type 0 = AllRightIn HasRoom in
    let R : List (List ℕ) → Type 0 = λ rows. AreProbes 1 (codes "dtrace:::BEGIN" ∷ codes "dtrace:::END" ∷ rows)
    c.in_ok-probes.probes.items in
    let shape : Passes Shape d = c.in_default.ensures in
    let right = subst V shown (subst W probes c.in_ok-probes.ensures.right) in
    let are = subst R probes c.in_ok-probes.ensures.probes in
    let before = one_more d Probe (one_more d Process
    (one_more d Account (one_more d Cpus (one_more d Shape (json_passes d) shape) c.in-Some-cpus_of.ensures.0)
    (subst A accounts c.in_ok-accounts.ensures.right)) (subst P processes c.in_ok-processes.ensures.right))
    right in
    let counted = c.in-Some-cpus_of.ensures.1 ∙ ap Some
    (c.in-None.ensures.0 ∙ sym (length-rows script_rows c.list_at-4.result.now) ∙ ap length scripts) in
    let few = few_rows (probes_in d) probes_max (λ k row there. (right k row there).few) in
    let all = length-probes 1 (codes "dtrace:::BEGIN" ∷ codes "dtrace:::END" ∷ probes_in d)
    c.in_ok-probes.probes.items are in
    record {
      passed = one_more d Script before (counted, subst S scripts c.in-None.ensures.1);
      registers = record {
        cpus = c.in-Some-cpus_of.ensures.1;
        accounts = c.in_ok-accounts.ensures.accounts ∙ ap (map account) accounts;
        processes = listed;
        probes = are;
      };
      ready = record {
        finds = c.in_ok-processes.ensures.by_pid;
        small = c.in_ok-processes.ensures.small;
        few = omega arith;
      };
    }
