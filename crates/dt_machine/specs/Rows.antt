-- The rows of the machine file, what each stands for, and where it is right.
use Rattle.std.specs.Prelude.{◌≡◌, ◌≢◌, ℕ, ℤ, pos, ◌+◌, ◌-◌, ◌<◌, ◌≤◌, ◌==◌, ◌^◌, ◌⊎◌, ◌++◌, Bool, List, [], ◌∷◌, Option, Some, None, IsSome, IsSomeAnd, All, length, map, find, replicate, unwrap_or, codes, if◌then◌else◌}
use Rattle.std.specs.List.{list_any}
use Rattle.std.specs.Str.{bytes_eq}
use Rattle.serde_json.specs.Data.{Data}
use Rattle.dt_names.specs.Bytes.{space, hyphen, zero_digit, nine_digit, underscore, small_a, small_z, tilde}
use Rattle.dt_names.specs.Tuple.{SpellsTuple}
use Rattle.dt_names.specs.Limits.{name_max}
use Rattle.dt_names.specs.Limits.{short_text_max}
use Rattle.dt_names.specs.declared.tuple.ProbeTuple.{ProbeTuple}
use Rattle.dt_cred.specs.Class.{NamesProcess, IsClassOf}
use Rattle.dt_cred.specs.declared.account.Account.{Account}
use Rattle.dt_cred.specs.declared.account.Privs.{Privs}
use Rattle.dt_cred.specs.declared.account.Process.{Process}
use Rattle.dt_cred.specs.declared.probe.Probe.{Probe}
use Rattle.dt_cred.specs.declared.rights.Mode.{Mode}
use Rattle.dt_cred.specs.declared.rights.Mode.TheVariants.{User, Kernel}
use Rattle.dt_cred.specs.declared.firing.Firing.{Firing}
use Rattle.dt_machine.specs.Given.{unsigned, signed, unsigned_at, text_of, text_at, items_of, list_at}
use Rattle.dt_machine.specs.Registry.{Registry, probe_of, process_of}
use Rattle.dt_machine.specs.Limits.{accounts_max, first_probe_id, script_max, pid_max, probes_max, processes_max}
use Rattle.dt_cred.specs.Limits.{argument_count, frame_count}

-- The rows. A number that is None is one that no such number can be: negative, or past 64 bits.
pub record AccountRow : Type 0 where
  pub name : List ℕ
  pub uid : Option ℕ
  pub privs : List (List ℕ)

pub record ProcessRow : Type 0 where
  pub pid : Option ℕ
  pub uid : Option ℕ
  pub execname : List ℕ

pub record FiringRow : Type 0 where
  pub probe : Option ℕ
  pub pid : Option ℕ
  pub tid : Option ℕ
  pub mode : List ℕ
  pub timestamp : Option ℕ
  pub args : List (Option ℤ)
  pub kstack : List (Option ℕ)
  pub ustack : List (Option ℕ)

abbrev pub account_row : Data → AccountRow
account_row d = record {
  name = text_at (codes "name") [] d;
  uid = unsigned_at (codes "uid") None d;
  privs = map text_of (list_at (codes "privs") d);
}

abbrev pub process_row : Data → ProcessRow
process_row d = record {
  pid = unsigned_at (codes "pid") None d;
  uid = unsigned_at (codes "uid") None d;
  execname = text_at (codes "execname") [] d;
}

-- what may be left out: tid 1, mode user, timestamp 0, no arguments and no frames
abbrev pub firing_row : Data → FiringRow
firing_row d = record {
  probe = unsigned_at (codes "probe") None d;
  pid = unsigned_at (codes "pid") None d;
  tid = unsigned_at (codes "tid") (Some 1) d;
  mode = text_at (codes "mode") (codes "user") d;
  timestamp = unsigned_at (codes "timestamp") (Some 0) d;
  args = map signed (list_at (codes "args") d);
  kstack = map unsigned (list_at (codes "kstack") d);
  ustack = map unsigned (list_at (codes "ustack") d);
}

abbrev pub script_rows : Data → List FiringRow
script_rows d = map firing_row (items_of d)

-- What a right row stands for.
abbrev pub number_in : Option ℕ → ℕ
number_in number = unwrap_or number 0

abbrev pub lists : List (List ℕ) → List ℕ → Bool
lists given priv = list_any (λ text. bytes_eq text priv) given

abbrev pub privs : List (List ℕ) → Privs
privs given = record {
  dtrace_user = lists given (codes "dtrace_user");
  dtrace_proc = lists given (codes "dtrace_proc");
  dtrace_kernel = lists given (codes "dtrace_kernel");
  proc_owner = lists given (codes "proc_owner");
}

abbrev pub account : AccountRow → Account
account row = record { name = row.name; uid = number_in row.uid; privs = privs row.privs }

abbrev pub process : ProcessRow → Process
process row = record { pid = number_in row.pid; uid = number_in row.uid; execname = row.execname }

abbrev pub mode : List ℕ → Mode
mode text = if bytes_eq text (codes "kernel") then Kernel else User

-- the arguments that are given, and zeros up to as many as a firing has
abbrev pub arguments : List (Option ℤ) → List ℤ
arguments given = map (λ number. unwrap_or number (pos 0)) given ++ replicate (argument_count - length given) (pos 0)

-- the frames that are given, and zeros up to as many as a stack has
abbrev pub frames : List (Option ℕ) → List ℕ
frames given = map number_in given ++ replicate (frame_count - length given) 0

abbrev pub firing : ℕ → ℕ → FiringRow → Firing
firing cpu place row = record {
  cpu = cpu;
  place = place;
  probe = number_in row.probe;
  pid = number_in row.pid;
  tid = number_in row.tid;
  mode = mode row.mode;
  timestamp = pos (number_in row.timestamp);
  args = arguments row.args;
  kstack = frames row.kstack;
  ustack = frames row.ustack;
}

-- the firings of a processor's rows from a place on
abbrev pub script : ℕ → ℕ → List FiringRow → List Firing
script cpu place [] = []
script cpu place (row ∷ rows) = firing cpu place row ∷ script cpu (place + 1) rows

-- the scripts from a processor on
abbrev pub scripts : ℕ → List (List FiringRow) → List (List Firing)
scripts cpu [] = []
scripts cpu (rows ∷ more) = script cpu 0 rows ∷ scripts (cpu + 1) more

-- The texts spell the probes that are numbered from an identifier on, and each has the class of its provider.
abbrev pub AreProbes : ℕ → List (List ℕ) → List Probe → Type 0
AreProbes id [] [] = Unit {0}
AreProbes id [] (probe ∷ probes) = ⊥
AreProbes id (text ∷ texts) [] = ⊥
AreProbes id (text ∷ texts) (probe ∷ probes) = (probe.id ≡ id) × SpellsTuple text probe.tuple
    × IsClassOf probe.tuple.provider probe.class × AreProbes (id + 1) texts probes

-- Where a row is right, given the rows before it.
abbrev pub IsGivenBelow : ℕ → Option ℕ → Type 0
IsGivenBelow limit number = IsSomeAnd number (λ n. n < limit)

-- a small letter, a digit, an underscore or a hyphen
abbrev pub IsAccountByte : ℕ → Type 0
IsAccountByte byte = ((small_a ≤ byte) × (byte ≤ small_z))
    ⊎ (((zero_digit ≤ byte) × (byte ≤ nine_digit)) ⊎ ((byte ≡ underscore) ⊎ (byte ≡ hyphen)))

abbrev pub IsPriv : List ℕ → Type 0
IsPriv text = (text ≡ codes "dtrace_user")
    ⊎ ((text ≡ codes "dtrace_proc") ⊎ ((text ≡ codes "dtrace_kernel") ⊎ (text ≡ codes "proc_owner")))

pub record IsAccountName (text : List ℕ) : Type 0 where
  pub some : text ≢ []
  pub short : length text ≤ name_max
  pub plain : All IsAccountByte text

pub record IsRightAccount (before : List AccountRow) (row : AccountRow) : Type 0 where
  pub few : length before < accounts_max
  pub named : IsAccountName row.name
  pub new : All (λ earlier. earlier.name ≢ row.name) before
  pub uid : IsGivenBelow (2 ^ 32) row.uid
  pub privs : All IsPriv row.privs

-- visible ASCII characters and spaces
pub record IsExecname (text : List ℕ) : Type 0 where
  pub short : length text ≤ short_text_max
  pub plain : All (λ byte. (space ≤ byte) × (byte ≤ tilde)) text

pub record IsRightProcess (before : List ProcessRow) (row : ProcessRow) : Type 0 where
  pub few : length before < processes_max
  pub pid : IsGivenBelow (pid_max + 1) row.pid
  pub new : All (λ earlier. earlier.pid ≢ row.pid) before
  pub uid : IsGivenBelow (2 ^ 32) row.uid
  pub named : IsExecname row.execname

-- A probe is not of the provider `dtrace`, and its `pid` provider names one of the processes, if it has one.
pub record IsRightProbe (processes : List Process) (before : List (List ℕ)) (text : List ℕ) : Type 0 where
  pub few : length before < probes_max
  pub tuple : ProbeTuple
  pub spelled : SpellsTuple text tuple
  pub given : tuple.provider ≢ codes "dtrace"
  pub new : All (λ earlier. SpellsTuple earlier tuple → ⊥) before
  pub traced : (pid : ℕ) → NamesProcess tuple.provider pid → IsSome (find (λ process. process.pid == pid) processes)

abbrev pub IsMode : List ℕ → Type 0
IsMode text = (text ≡ codes "user") ⊎ (text ≡ codes "kernel")

pub record AreArguments (given : List (Option ℤ)) : Type 0 where
  pub few : length given ≤ argument_count
  pub each : All IsSome given

pub record AreGivenFrames (given : List (Option ℕ)) : Type 0 where
  pub few : length given ≤ frame_count
  pub each : All IsSome given

abbrev pub HasRoom : List FiringRow → FiringRow → Type 0
HasRoom before row = length before < script_max

-- the identifier of one of the file's probes
abbrev pub IsGivenProbe : Registry → ℕ → Type 0
IsGivenProbe registry id = (first_probe_id ≤ id) × IsSome (probe_of registry id)

pub record IsRightFiring (registry : Registry) (before : List FiringRow) (row : FiringRow) : Type 0 where
  pub probe : IsSomeAnd row.probe (IsGivenProbe registry)
  pub pid : IsSomeAnd row.pid (λ pid. IsSome (process_of registry pid))
  pub tid : IsGivenBelow (2 ^ 32) row.tid
  pub mode : IsMode row.mode
  pub timestamp : IsGivenBelow (2 ^ 63) row.timestamp
  pub args : AreArguments row.args
  pub kstack : AreGivenFrames row.kstack
  pub ustack : AreGivenFrames row.ustack
