-- A row of which something is found is not right.
use Rattle.std.proofs.Common.{◌≡◌, ◌≢◌, ◌+◌, inl, inr, ℕ, List, Some, All, take, slice_get, refl, sym, subst}
use Rattle.dt_cred.specs.declared.account.Process.{Process}
use Rattle.dt_machine.specs.declared.fault.FaultNumber.{FaultNumber}
use Rattle.dt_machine.specs.declared.fault.MachineFault.{MachineFault}
use Rattle.dt_machine.specs.declared.found.Found.{Found}
use Rattle.dt_machine.specs.Found.{Fails, SpellsNew, HasProvider, IsFoundOfAccount, IsFoundOfProcess, IsFoundOfProbe}
use Rattle.dt_machine.specs.Found.{IsFoundOfFiring}
use Rattle.dt_machine.specs.Limits.{pid_max}
use Rattle.dt_machine.specs.Registry.{Registry}
use Rattle.dt_machine.specs.Rows.{AccountRow, ProcessRow, FiringRow, IsAccountName, IsGivenBelow, IsRightAccount}
use Rattle.dt_machine.specs.Rows.{IsRightProcess, IsRightProbe, IsRightFiring}
use Rattle.dt_machine.specs.Sections.{IsMiss}
use Rattle.dt_machine.proofs.Searching.{RightUpTo, first_wrong}

-- where a test holds that found something, a later one found it
failing : (found this : Found) (Test Later : Type 0) → Test → (Later → ⊥) → Fails found this Test Later → ⊥
failing found this Test Later holds later (inl f) = f.0 holds
failing found this Test Later holds later (inr f) = later f.1

pub account_wrong : (at : ℕ) (before : List AccountRow) (row : AccountRow) (found : Found)
    → IsFoundOfAccount at before row found → IsRightAccount before row → ⊥
account_wrong at before row found told r =
    let name : IsAccountName row.name × All (λ (earlier : AccountRow). earlier.name ≢ row.name) before =
    (r.named, r.new) in
    failing found _ _ _ r.few (failing found _ _ _ name (failing found _ _ _ r.uid (failing found _ _ _ r.privs
    (λ f. f)))) told

pub process_wrong : (at : ℕ) (before : List ProcessRow) (row : ProcessRow) (found : Found)
    → IsFoundOfProcess at before row found → IsRightProcess before row → ⊥
process_wrong at before row found told r =
    let pid : IsGivenBelow (pid_max + 1) row.pid × All (λ (earlier : ProcessRow). earlier.pid ≢ row.pid) before =
    (r.pid, r.new) in
    failing found _ _ _ r.few (failing found _ _ _ pid (failing found _ _ _ r.uid (failing found _ _ _ r.named
    (λ f. f)))) told

pub probe_wrong : (processes : List Process) (at : ℕ) (before : List (List ℕ)) (text : List ℕ) (found : Found)
    → IsFoundOfProbe processes at before text found → IsRightProbe processes before text → ⊥
probe_wrong processes at before text found told r =
    let spelled : SpellsNew before text = (r.tuple, r.spelled, r.new) in
    let provider : HasProvider processes text = (r.tuple, r.spelled, r.given, r.traced) in
    failing found _ _ _ r.few (failing found _ _ _ spelled (failing found _ _ _ provider (λ f. f))) told

pub firing_wrong : (registry : Registry) (cpu at : ℕ) (before : List FiringRow) (row : FiringRow) (found : Found)
    → IsFoundOfFiring registry cpu at row found → IsRightFiring registry before row → ⊥
firing_wrong registry cpu at before row found told r =
    failing found _ _ _ r.probe (failing found _ _ _ r.pid (failing found _ _ _ r.tid (failing found _ _ _ r.mode
    (failing found _ _ _ r.timestamp (failing found _ _ _ r.args (failing found _ _ _ r.kstack
    (failing found _ _ _ r.ustack (λ f. f)))))))) told

-- the first row that is not right, with what is found of it
pub missed_row : {A : Type 0} (number : FaultNumber) (R : List A → A → Type 0) (P : ℕ → List A → A → Found → Type 0)
    (rows : List A) (i : ℕ) (row : A) (found : Found) (fault : MachineFault)
    → fault ≡ record { number = number; cpu = 0; row = i; found = Some found } → RightUpTo R rows i
    → slice_get rows i ≡ Some row → (R (take i rows) row → ⊥) → P i (take i rows) row found
    → IsMiss number R P rows fault
missed_row number R P rows i row found fault is right there wrong told =
    subst (IsMiss number R P rows) (sym is) (record {
      number = refl;
      nowhere = refl;
      first = first_wrong R rows i row right there wrong;
      tells = record { row = row; there = there; tells = told };
    })
