-- What of a row is wrong: the first of its tests that fails tells the key.
use Rattle.std.specs.Prelude.{◌≡◌, ◌≢◌, ℕ, ◌+◌, ◌<◌, ◌^◌, ◌⊎◌, ◌++◌, ◌==◌, List, Option, Some, IsSome, IsSomeAnd, All, find, length, take, slice_get, codes}
use Rattle.std.specs.Prelude.{Bool, true, false, None, is_some}
use Rattle.std.specs.Fmt.{decimal}
use Rattle.serde_json.specs.Data.{Data}
use Rattle.serde_json.specs.Find.{as_object}
use Rattle.dt_names.specs.Tuple.{SpellsTuple}
use Rattle.dt_names.specs.declared.tuple.ProbeTuple.{ProbeTuple}
use Rattle.dt_cred.specs.Class.{NamesProcess}
use Rattle.dt_cred.specs.declared.account.Process.{Process as ProcessType}
use Rattle.dt_machine.specs.declared.found.Found.{Found}
use Rattle.dt_machine.specs.declared.found.FileKey.{FileKey}
use Rattle.dt_machine.specs.declared.found.FileKey.TheVariants as key
use Rattle.dt_machine.specs.declared.found.Part.{Part}
use Rattle.dt_machine.specs.declared.found.Part.TheVariants.{File, Account, Process, Probe, Script, Firing}
use Rattle.dt_machine.specs.Given.{is_integer, is_text, is_list_of, has_field, may_have, items, items_at}
use Rattle.dt_machine.specs.Shape.{is_account, is_process, is_numbers, is_firing}
use Rattle.dt_machine.specs.Registry.{Registry, process_of}
use Rattle.dt_machine.specs.Rows.{AccountRow, ProcessRow, FiringRow, IsAccountName, IsPriv, IsExecname, IsGivenBelow, IsMode, IsGivenProbe, AreArguments, AreGivenFrames}
use Rattle.dt_machine.specs.Limits.{accounts_max, processes_max, probes_max, pid_max}

-- The words.
abbrev pub key_word : FileKey → List ℕ
key_word key.Cpus = codes "cpus"
key_word key.Accounts = codes "accounts"
key_word key.Processes = codes "processes"
key_word key.Probes = codes "probes"
key_word key.Scripts = codes "scripts"
key_word key.Name = codes "name"
key_word key.Uid = codes "uid"
key_word key.Privs = codes "privs"
key_word key.Pid = codes "pid"
key_word key.Execname = codes "execname"
key_word key.Text = codes "text"
key_word key.Provider = codes "provider"
key_word key.Probe = codes "probe"
key_word key.Tid = codes "tid"
key_word key.Mode = codes "mode"
key_word key.Timestamp = codes "timestamp"
key_word key.Args = codes "args"
key_word key.Kstack = codes "kstack"
key_word key.Ustack = codes "ustack"

abbrev pub words_of_part : Part → List ℕ
words_of_part File = codes "the file"
words_of_part (Account row) = codes "account " ++ decimal row
words_of_part (Process row) = codes "process " ++ decimal row
words_of_part (Probe row) = codes "probe " ++ decimal row
words_of_part (Script cpu) = codes "processor " ++ decimal cpu
words_of_part (Firing cpu row) = codes "firing " ++ (decimal row ++ (codes " of processor " ++ decimal cpu))

-- Where the test fails, what stands here, and else what comes later.
abbrev pub Else : (Test Here Later : Type 0) → Type 0
Else Test Here Later = ((Test → ⊥) × Here) ⊎ (Test × Later)

-- What is found is this where the test fails, and else what the later tests tell.
abbrev pub Fails : (found this : Found) → (Test Later : Type 0) → Type 0
Fails found this Test Later = Else Test (found ≡ this) Later

abbrev pub of : Part → FileKey → Found
of part key = record { key = key; part = part }

-- What is found of a row that is not right, given its place and the rows before it.
abbrev pub IsFoundOfAccount : ℕ → List AccountRow → AccountRow → Found → Type 0
IsFoundOfAccount at before row found =
    Fails found (of File key.Accounts) (length before < accounts_max)
    (Fails found (of (Account at) key.Name) (IsAccountName row.name × All (λ earlier. earlier.name ≢ row.name) before)
    (Fails found (of (Account at) key.Uid) (IsGivenBelow (2 ^ 32) row.uid)
    (Fails found (of (Account at) key.Privs) (All IsPriv row.privs) ⊥)))

abbrev pub IsFoundOfProcess : ℕ → List ProcessRow → ProcessRow → Found → Type 0
IsFoundOfProcess at before row found =
    Fails found (of File key.Processes) (length before < processes_max)
    (Fails found (of (Process at) key.Pid)
    (IsGivenBelow (pid_max + 1) row.pid × All (λ earlier. earlier.pid ≢ row.pid) before)
    (Fails found (of (Process at) key.Uid) (IsGivenBelow (2 ^ 32) row.uid)
    (Fails found (of (Process at) key.Execname) (IsExecname row.execname) ⊥)))

-- the text spells a probe that none before it spells
abbrev pub SpellsNew : List (List ℕ) → List ℕ → Type 0
SpellsNew before text = (tuple : ProbeTuple) × SpellsTuple text tuple
    × All (λ earlier. SpellsTuple earlier tuple → ⊥) before

-- the provider of the probe that the text spells is one that a file's probe may have
abbrev pub HasProvider : List ProcessType → List ℕ → Type 0
HasProvider processes text = (tuple : ProbeTuple) × SpellsTuple text tuple × (tuple.provider ≢ codes "dtrace")
    × ((pid : ℕ) → NamesProcess tuple.provider pid → IsSome (find (λ process. process.pid == pid) processes))

abbrev pub IsFoundOfProbe : List ProcessType → ℕ → List (List ℕ) → List ℕ → Found → Type 0
IsFoundOfProbe processes at before text found =
    Fails found (of File key.Probes) (length before < probes_max)
    (Fails found (of (Probe at) key.Text) (SpellsNew before text)
    (Fails found (of (Probe at) key.Provider) (HasProvider processes text) ⊥))

abbrev pub IsFoundOfFiring : Registry → ℕ → ℕ → FiringRow → Found → Type 0
IsFoundOfFiring registry cpu at row found =
    Fails found (of (Firing cpu at) key.Probe) (IsSomeAnd row.probe (IsGivenProbe registry))
    (Fails found (of (Firing cpu at) key.Pid) (IsSomeAnd row.pid (λ pid. IsSome (process_of registry pid)))
    (Fails found (of (Firing cpu at) key.Tid) (IsGivenBelow (2 ^ 32) row.tid)
    (Fails found (of (Firing cpu at) key.Mode) (IsMode row.mode)
    (Fails found (of (Firing cpu at) key.Timestamp) (IsGivenBelow (2 ^ 63) row.timestamp)
    (Fails found (of (Firing cpu at) key.Args) (AreArguments row.args)
    (Fails found (of (Firing cpu at) key.Kstack) (AreGivenFrames row.kstack)
    (Fails found (of (Firing cpu at) key.Ustack) (AreGivenFrames row.ustack) ⊥)))))))

-- What is found of the row at a place.
pub record IsFoundAt {A : Type 0} (IsFoundOf : ℕ → List A → A → Found → Type 0) (rows : List A) (at : ℕ)
    (found : Option Found) : Type 0 where
  pub row : A
  pub there : slice_get rows at ≡ Some row
  pub tells : IsSomeAnd found (IsFoundOf at (take at rows) row)

-- the same of the row of a processor's script
pub record IsFoundIn {A : Type 0} (IsFoundOf : ℕ → ℕ → List A → A → Found → Type 0) (scripts : List (List A))
    (cpu at : ℕ) (found : Option Found) : Type 0 where
  pub script : List A
  pub there : slice_get scripts cpu ≡ Some script
  pub tells : IsFoundAt (IsFoundOf cpu) script at found

-- The first row of a list that has not its shape, and what is found of it.
pub record IsFirstFound (has_shape : Data → Bool) (IsFoundOf : ℕ → Data → Found → Type 0) (rows : List Data)
    (found : Found) : Type 0 where
  pub at : ℕ
  pub row : Data
  pub there : slice_get rows at ≡ Some row
  pub wrong : has_shape row ≡ false
  pub tells : IsFoundOf at row found
  pub right_before : (k : ℕ) (earlier : Data) → k < at → slice_get rows k ≡ Some earlier → has_shape earlier ≡ true

-- There is no list, and this is found; or what is found of its first row that has not its shape.
abbrev pub IsFoundOfList : Found → (Data → Bool) → (ℕ → Data → Found → Type 0) → Option (List Data) → Found → Type 0
IsFoundOfList this has_shape IsFoundOf None found = found ≡ this
IsFoundOfList this has_shape IsFoundOf (Some rows) found = IsFirstFound has_shape IsFoundOf rows found

-- What is found of a row that has not its shape: its first key that is missing or of the wrong kind.
abbrev pub IsMisshapenAccount : ℕ → Data → Found → Type 0
IsMisshapenAccount at d found =
    Fails found (of (Account at) key.Name) (has_field (codes "name") is_text d ≡ true)
    (Fails found (of (Account at) key.Uid) (has_field (codes "uid") is_integer d ≡ true)
    (Fails found (of (Account at) key.Privs) (has_field (codes "privs") (is_list_of is_text) d ≡ true) ⊥))

abbrev pub IsMisshapenProcess : ℕ → Data → Found → Type 0
IsMisshapenProcess at d found =
    Fails found (of (Process at) key.Pid) (has_field (codes "pid") is_integer d ≡ true)
    (Fails found (of (Process at) key.Uid) (has_field (codes "uid") is_integer d ≡ true)
    (Fails found (of (Process at) key.Execname) (has_field (codes "execname") is_text d ≡ true) ⊥))

abbrev pub IsMisshapenProbe : ℕ → Data → Found → Type 0
IsMisshapenProbe at d found = Fails found (of (Probe at) key.Text) (is_text d ≡ true) ⊥

abbrev pub IsMisshapenFiring : ℕ → ℕ → Data → Found → Type 0
IsMisshapenFiring cpu at d found =
    Fails found (of (Firing cpu at) key.Probe) (has_field (codes "probe") is_integer d ≡ true)
    (Fails found (of (Firing cpu at) key.Pid) (has_field (codes "pid") is_integer d ≡ true)
    (Fails found (of (Firing cpu at) key.Tid) (may_have (codes "tid") is_integer d ≡ true)
    (Fails found (of (Firing cpu at) key.Mode) (may_have (codes "mode") is_text d ≡ true)
    (Fails found (of (Firing cpu at) key.Timestamp) (may_have (codes "timestamp") is_integer d ≡ true)
    (Fails found (of (Firing cpu at) key.Args) (may_have (codes "args") is_numbers d ≡ true)
    (Fails found (of (Firing cpu at) key.Kstack) (may_have (codes "kstack") is_numbers d ≡ true)
    (Fails found (of (Firing cpu at) key.Ustack) (may_have (codes "ustack") is_numbers d ≡ true) ⊥)))))))

abbrev pub IsMisshapenScript : ℕ → Data → Found → Type 0
IsMisshapenScript cpu d found =
    IsFoundOfList (of (Script cpu) key.Scripts) is_firing (IsMisshapenFiring cpu) (items d) found

-- the same of the file, in the order of its five keys
abbrev pub IsMisshapenFile : Data → Found → Type 0
IsMisshapenFile d found =
    Fails found (of File key.Cpus) (has_field (codes "cpus") is_integer d ≡ true)
    (Else (has_field (codes "accounts") (is_list_of is_account) d ≡ true)
    (IsFoundOfList (of File key.Accounts) is_account IsMisshapenAccount (items_at (codes "accounts") d) found)
    (Else (has_field (codes "processes") (is_list_of is_process) d ≡ true)
    (IsFoundOfList (of File key.Processes) is_process IsMisshapenProcess (items_at (codes "processes") d) found)
    (Else (has_field (codes "probes") (is_list_of is_text) d ≡ true)
    (IsFoundOfList (of File key.Probes) is_text IsMisshapenProbe (items_at (codes "probes") d) found)
    (Else (has_field (codes "scripts") (is_list_of (is_list_of is_firing)) d ≡ true)
    (IsFoundOfList (of File key.Scripts) (is_list_of is_firing) IsMisshapenScript (items_at (codes "scripts") d) found)
    ⊥))))

-- Nothing is found of a file that is no object.
abbrev pub IsFoundOfShape : Data → Option Found → Type 0
IsFoundOfShape d found = Else (is_some (as_object d) ≡ true) (found ≡ None) (IsSomeAnd found (IsMisshapenFile d))
