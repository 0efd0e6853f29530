-- What a machine file describes, or the first fault that it shows.
use Rattle.std.specs.Prelude.{◌≡◌, ◌≢◌, ℕ, ◌<◌, ◌≤◌, List, ◌∷◌, Option, Some, None, IsSomeAnd, IsUtf8, length, take, map, slice_get, codes, true, false, ◌⊎◌}
use Rattle.serde_json.specs.Data.{Data}
use Rattle.serde_json.specs.Read.{read}
use Rattle.dt_machine.specs.declared.fault.FaultNumber.{FaultNumber}
use Rattle.dt_machine.specs.declared.fault.FaultNumber.TheVariants.{Json, Shape, Cpus, Account, Process, Probe, Script, Firing, Foreign, Memory}
use Rattle.dt_machine.specs.declared.fault.MachineFault.{MachineFault}
use Rattle.dt_machine.specs.Given.{unsigned_at, text_of, list_at}
use Rattle.dt_machine.specs.Shape.{is_machine}
use Rattle.dt_machine.specs.Rows.{AccountRow, ProcessRow, FiringRow, account_row, process_row, script_rows, account, process, scripts, AreProbes, IsRightAccount, IsRightProcess, IsRightProbe, IsRightFiring, HasRoom}
use Rattle.dt_machine.specs.Registry.{Registry, Contents, Belongs}
use Rattle.dt_machine.specs.declared.found.Found.{Found}
use Rattle.dt_machine.specs.declared.found.FileKey.TheVariants as key
use Rattle.dt_machine.specs.declared.found.Part.TheVariants as part
use Rattle.dt_machine.specs.Found.{Fails, of, IsFoundAt, IsFoundIn, IsFoundOfShape, IsFoundOfAccount, IsFoundOfProcess, IsFoundOfProbe, IsFoundOfFiring}
use Rattle.dt_machine.specs.Limits.{cpus_max}

-- each row is right, given those before it
abbrev pub AllRight : {A : Type 0} → (List A → A → Type 0) → List A → Type 0
AllRight {A} IsRight rows = (k : ℕ) (row : A) → slice_get rows k ≡ Some row → IsRight (take k rows) row

-- The first row that is not right.
pub record IsFirstWrong {A : Type 0} (IsRight : List A → A → Type 0) (rows : List A) (at : ℕ) : Type 0 where
  pub row : A
  pub there : slice_get rows at ≡ Some row
  pub wrong : IsRight (take at rows) row → ⊥
  pub right_before : (k : ℕ) (earlier : A) → k < at → slice_get rows k ≡ Some earlier → IsRight (take k rows) earlier

-- the same over the scripts, of which those of lesser processors go first
abbrev pub AllRightIn : {A : Type 0} → (List A → A → Type 0) → List (List A) → Type 0
AllRightIn {A} IsRight scripts = AllRight (λ _ script. AllRight IsRight script) scripts

pub record IsFirstWrongIn {A : Type 0} (IsRight : List A → A → Type 0) (scripts : List (List A))
    (cpu at : ℕ) : Type 0 where
  pub script : List A
  pub there : slice_get scripts cpu ≡ Some script
  pub first : IsFirstWrong IsRight script at
  pub right_before : (k : ℕ) (earlier : List A) → k < cpu → slice_get scripts k ≡ Some earlier
      → AllRight IsRight earlier

-- The sections of a file.
abbrev pub cpus_in : Data → Option ℕ
cpus_in d = unsigned_at (codes "cpus") None d

abbrev pub accounts_in : Data → List AccountRow
accounts_in d = map account_row (list_at (codes "accounts") d)

abbrev pub processes_in : Data → List ProcessRow
processes_in d = map process_row (list_at (codes "processes") d)

abbrev pub probes_in : Data → List (List ℕ)
probes_in d = map text_of (list_at (codes "probes") d)

abbrev pub scripts_in : Data → List (List FiringRow)
scripts_in d = map script_rows (list_at (codes "scripts") d)

-- The registry that a file gives: BEGIN and END go before its own probes.
pub record Registers (d : Data) (registry : Registry) : Type 0 where
  pub cpus : cpus_in d ≡ Some registry.cpus
  pub accounts : registry.accounts ≡ map account (accounts_in d)
  pub processes : registry.processes ≡ map process (processes_in d)
  pub probes : AreProbes 1 (codes "dtrace:::BEGIN" ∷ codes "dtrace:::END" ∷ probes_in d) registry.probes

-- The tests of a number find nothing.
abbrev pub Passes : FaultNumber → Data → Type 0
Passes Json d = Unit {0}
Passes Shape d = is_machine d ≡ true
Passes Cpus d = IsSomeAnd (cpus_in d) (λ cpus. (1 ≤ cpus) × (cpus ≤ cpus_max))
Passes Account d = AllRight IsRightAccount (accounts_in d)
Passes Process d = AllRight IsRightProcess (processes_in d)
Passes Probe d = AllRight (IsRightProbe (map process (processes_in d))) (probes_in d)
Passes Script d = (cpus_in d ≡ Some (length (scripts_in d))) × AllRightIn HasRoom (scripts_in d)
Passes Firing d = (registry : Registry) × Registers d registry × AllRightIn (IsRightFiring registry) (scripts_in d)
Passes Foreign d = (registry : Registry) × Registers d registry × AllRightIn (λ _ firing. Belongs registry firing)
    (scripts 0 (scripts_in d))
Passes Memory d = Unit {0}

-- no processor and no row is meant
abbrev pub Nowhere : ℕ → ℕ → Type 0
Nowhere cpu row = (cpu ≡ 0) × (row ≡ 0)

-- The scripts are not one for each processor, which goes first, or one is too long, at the first row too many.
abbrev pub IsScriptFault : ℕ → List (List FiringRow) → ℕ → ℕ → Type 0
IsScriptFault cpus scripts cpu row = ((cpus ≡ length scripts → ⊥) × Nowhere cpu row)
    ⊎ ((cpus ≡ length scripts) × IsFirstWrongIn HasRoom scripts cpu row)

-- What the tests of a number find first, and where.
abbrev pub Finds : FaultNumber → Data → ℕ → ℕ → Type 0
Finds Json d cpu row = ⊥
Finds Shape d cpu row = (is_machine d ≡ false) × Nowhere cpu row
Finds Cpus d cpu row = (Passes Cpus d → ⊥) × Nowhere cpu row
Finds Account d cpu row = (cpu ≡ 0) × IsFirstWrong IsRightAccount (accounts_in d) row
Finds Process d cpu row = (cpu ≡ 0) × IsFirstWrong IsRightProcess (processes_in d) row
Finds Probe d cpu row = (cpu ≡ 0) × IsFirstWrong (IsRightProbe (map process (processes_in d))) (probes_in d) row
Finds Script d cpu row = (cpus : ℕ) × (cpus_in d ≡ Some cpus) × IsScriptFault cpus (scripts_in d) cpu row
Finds Firing d cpu row = (registry : Registry) × Registers d registry × IsFirstWrongIn (IsRightFiring registry)
    (scripts_in d) cpu row
Finds Foreign d cpu row = (registry : Registry) × Registers d registry
    × IsFirstWrongIn (λ _ firing. Belongs registry firing) (scripts 0 (scripts_in d)) cpu row
Finds Memory d cpu row = ⊥

-- what is found of scripts that are not one for each processor, or of the first that is too long
abbrev pub IsFoundOfScripts : ℕ → List (List FiringRow) → ℕ → Option Found → Type 0
IsFoundOfScripts cpus scripts cpu found = IsSomeAnd found (λ found.
    Fails found (of part.File key.Scripts) (cpus ≡ length scripts) (found ≡ of (part.Script cpu) key.Scripts))

-- What a fault tells of what its number finds at a processor and a row.
abbrev pub FaultTells : FaultNumber → Data → ℕ → ℕ → Option Found → Type 0
FaultTells Json d cpu row found = found ≡ None
FaultTells Shape d cpu row found = IsFoundOfShape d found
FaultTells Cpus d cpu row found = found ≡ Some (of part.File key.Cpus)
FaultTells Account d cpu row found = IsFoundAt IsFoundOfAccount (accounts_in d) row found
FaultTells Process d cpu row found = IsFoundAt IsFoundOfProcess (processes_in d) row found
FaultTells Probe d cpu row found = IsFoundAt (IsFoundOfProbe (map process (processes_in d))) (probes_in d) row found
FaultTells Script d cpu row found = (cpus : ℕ) × (cpus_in d ≡ Some cpus) × IsFoundOfScripts cpus (scripts_in d) cpu found
FaultTells Firing d cpu row found = (registry : Registry) × Registers d registry
    × IsFoundIn (λ cpu at _. IsFoundOfFiring registry cpu at) (scripts_in d) cpu row found
FaultTells Foreign d cpu row found = found ≡ Some (of (part.Firing cpu row) key.Pid)
FaultTells Memory d cpu row found = found ≡ None

abbrev pub rank_of : FaultNumber → ℕ
rank_of Json = 1
rank_of Shape = 2
rank_of Cpus = 3
rank_of Account = 4
rank_of Process = 5
rank_of Probe = 6
rank_of Script = 7
rank_of Firing = 8
rank_of Foreign = 9
rank_of Memory = 10

-- the text is JSON, and its value is this one
pub record IsJson (text : List ℕ) (d : Data) : Type 0 where
  pub utf8 : IsUtf8 text
  pub value : read text ≡ Some d

-- The first fault of a text: that it is no JSON, or the least number whose tests find something, where they find it
-- first. It tells what is wrong there.
pub record IsFirstFinding (d : Data) (fault : MachineFault) : Type 0 where
  pub found : Finds fault.number d fault.cpu fault.row
  pub tells : FaultTells fault.number d fault.cpu fault.row fault.found
  pub none_before : (earlier : FaultNumber) → rank_of earlier < rank_of fault.number → Passes earlier d

abbrev pub IsFaultOf : List ℕ → MachineFault → Type 0
IsFaultOf text fault = (((d : Data) → IsJson text d → ⊥) × (fault ≡ record { number = Json; cpu = 0; row = 0; found = None }))
    ⊎ ((d : Data) × IsJson text d × IsFirstFinding d fault)

-- The machine that a text describes: the tests of no number find anything, and this is its registry and its scripts.
pub record IsDescribed (text : List ℕ) (contents : Contents) : Type 0 where
  pub data_of : Data
  pub json : IsJson text data_of
  pub right : (number : FaultNumber) → Passes number data_of
  pub registry : Registers data_of contents.registry
  pub firings : contents.scripts ≡ scripts 0 (scripts_in data_of)

-- the fault is that memory ran out, or it is as said
abbrev pub UnlessMemory : MachineFault → Type 0 → Type 0
UnlessMemory fault P = fault.number ≢ Memory → P

-- a fault for memory names no processor and no row, and tells no key
abbrev pub NowhereIfMemory : MachineFault → Type 0
NowhereIfMemory fault = fault.number ≡ Memory → Nowhere fault.cpu fault.row × (fault.found ≡ None)
