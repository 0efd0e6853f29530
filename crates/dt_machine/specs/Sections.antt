-- What the reading of one section of the file answers.
use Rattle.std.specs.Prelude.{◌≡◌, ◌&&◌, Bool, ◌^◌, All, length, ◌<◌, ◌≤◌, ℕ, List, map, find, Vec, IsSome, ◌==◌, IfSome, slice_get, option_and_then}
use Rattle.std.specs.declared.alloc.Global.{Global}
use Rattle.serde_json.specs.View.{view}
use Rattle.serde_json.specs.declared.value.Value.{Value}
use Rattle.dt_cred.specs.declared.account.Process.{Process}
use Rattle.dt_machine.specs.declared.fault.FaultNumber.{FaultNumber}
use Rattle.dt_machine.specs.declared.fault.MachineFault.{MachineFault}
use Rattle.dt_machine.specs.declared.found.Found.{Found}
use Rattle.dt_machine.specs.Found.{IsFoundAt}
use Rattle.dt_machine.specs.Rows.{AccountRow, ProcessRow, FiringRow, account_row, process_row, firing_row, script_rows}
use Rattle.std.specs.Str.{bytes_eq}
use Rattle.dt_names.specs.declared.tuple.ProbeTuple.{ProbeTuple}
use Rattle.dt_machine.specs.Given.{text_of}
use Rattle.serde_json.specs.Data.{Data}
use Rattle.dt_machine.specs.Reading.{IsFirstWrong, Passes, rank_of, Registers}
use Rattle.dt_machine.specs.Registry.{Registry, Contents}
use Rattle.dt_cred.specs.declared.firing.Firing.{Firing}
use Rattle.dt_cred.specs.declared.class.Class.{Class}
use Rattle.dt_cred.specs.declared.class.Class.TheVariants.{Dtrace, Syscall, Profile, Pid, Other}
use Rattle.dt_machine.specs.ByPid.{place_in}
use Rattle.dt_machine.specs.declared.by_pid.ByPid.{ByPid}
use Rattle.dt_machine.specs.declared.sections.Sections.{Sections}
use Rattle.dt_machine.specs.Limits.{probe_id_max}

-- the fault of a number at the first row that is not right, which tells what is wrong with it
pub record IsMiss {A : Type 0} (wanted : FaultNumber) (IsRight : List A → A → Type 0)
    (IsFoundOf : ℕ → List A → A → Found → Type 0) (rows : List A) (fault : MachineFault) : Type 0 where
  pub number : fault.number ≡ wanted
  pub nowhere : fault.cpu ≡ 0
  pub first : IsFirstWrong IsRight rows fault.row
  pub tells : IsFoundAt IsFoundOf rows fault.row fault.found

abbrev pub account_rows : List Value → List AccountRow
account_rows values = map account_row (map view values)

abbrev pub process_rows : List Value → List ProcessRow
process_rows values = map process_row (map view values)

abbrev pub firing_rows : List Value → List FiringRow
firing_rows values = map firing_row (map view values)

abbrev pub scripts_rows : List Value → List (List FiringRow)
scripts_rows values = map script_rows (map view values)

abbrev pub texts : List Value → List (List ℕ)
texts values = map text_of (map view values)

-- The table gives the place of the process of each number, and no place where there is no such process.
pub record Indexes (by_pid : ByPid) (processes : List Process) : Type 0 where
  pub finds : (pid : ℕ) → option_and_then (slice_get processes) (place_in by_pid pid)
      ≡ find (λ process. process.pid == pid) processes
  pub within : (pid : ℕ) → IfSome (place_in by_pid pid) (λ place. place < length processes)

-- whether two tuples are equal, name by name
abbrev pub eq_tuples : ProbeTuple → ProbeTuple → Bool
eq_tuples a b = bytes_eq a.provider b.provider && bytes_eq a.module b.module && bytes_eq a.function b.function
    && bytes_eq a.name b.name

-- what the class of a file's probe has to be
abbrev pub IsTraced : List Process → Class → Type 0
IsTraced processes Dtrace = ⊥
IsTraced processes Syscall = Unit {0}
IsTraced processes Profile = Unit {0}
IsTraced processes (Pid pid) = IsSome (find (λ process. process.pid == pid) processes)
IsTraced processes Other = Unit {0}

abbrev pub registry_of : Sections → Registry
registry_of s = record {
  cpus = s.cpus;
  accounts = s.accounts.items;
  processes = s.processes.items;
  probes = s.probes.items;
}

-- the processes are found by their numbers, and there are no more probes than may be
pub record IsReady (s : Sections) : Type 0 where
  pub finds : Indexes s.by_pid s.processes.items
  pub small : All (λ process. process.pid < 2 ^ 32) s.processes.items
  pub few : length s.probes.items ≤ probe_id_max

-- the tests of the numbers before this one find nothing
abbrev pub PassesBefore : ℕ → Data → Type 0
PassesBefore number d = (earlier : FaultNumber) → rank_of earlier < number → Passes earlier d

-- the sections are those of the file, which is right as far as they go
pub record AreSections (d : Data) (s : Sections) : Type 0 where
  pub passed : PassesBefore 8 d
  pub registers : Registers d (registry_of s)
  pub ready : IsReady s

abbrev pub contents_with : Registry → List (Vec Firing Global) → Contents
contents_with registry scripts = record { registry = registry; scripts = map (λ script. script.items) scripts }
