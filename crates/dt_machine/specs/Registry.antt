-- The machine as consumers see it: its registry and scripts, what makes a firing foreign, and what holds of each
-- machine.
use Rattle.std.specs.Prelude.{◌≡◌, ◌≢◌, ℕ, zero, suc, ◌<◌, ◌≤◌, ◌==◌, List, Option, None, IsSome, IfSome, IsSomeAnd, length, slice_get, find, option_and_then, codes, AllPairs}
use Rattle.std.specs.Str.{bytes_eq}
use Rattle.dt_names.specs.Tuple.{SpellsTuple}
use Rattle.dt_cred.specs.Class.{IsClassOf}
use Rattle.dt_cred.specs.declared.account.Account.{Account}
use Rattle.dt_cred.specs.declared.account.Process.{Process}
use Rattle.dt_cred.specs.declared.class.Class.TheVariants.{Pid}
use Rattle.dt_cred.specs.declared.probe.Probe.{Probe}
use Rattle.dt_cred.specs.declared.firing.Firing.{Firing}
use Rattle.dt_machine.specs.Limits.{cpus_max, accounts_max, first_probe_id, processes_max, pid_max, probe_id_max, script_max}

-- what every run on a machine has in common: all of its file but the scripts
pub record Registry : Type 0 where
  pub cpus : ℕ
  pub accounts : List Account
  pub processes : List Process
  pub probes : List Probe

-- a registry, and for each processor the firings of its script
pub record Contents : Type 0 where
  pub registry : Registry
  pub scripts : List (List Firing)

-- the probe of an identifier: 1 is the first, BEGIN
abbrev pub probe_of : Registry → ℕ → Option Probe
probe_of registry zero = None
probe_of registry (suc before) = slice_get registry.probes before

-- the process of a number
abbrev pub process_of : Registry → ℕ → Option Process
process_of registry pid = find (λ process. process.pid == pid) registry.processes

-- the account of a name
abbrev pub account_of : Registry → List ℕ → Option Account
account_of registry name = find (λ account. bytes_eq account.name name) registry.accounts

-- the firing at a place of a processor's script
abbrev pub firing_at : List (List Firing) → ℕ → ℕ → Option Firing
firing_at scripts cpu place = option_and_then (λ script. slice_get script place) (slice_get scripts cpu)

-- A firing belongs to a machine whose processor, probe and process it names, if the probe is neither BEGIN nor END,
-- and the process is the one that the probe's `pid` provider names, where it has such a provider.
pub record Belongs (registry : Registry) (firing : Firing) : Type 0 where
  pub cpu : firing.cpu < registry.cpus
  pub of_file : first_probe_id ≤ firing.probe
  pub probe : IsSome (probe_of registry firing.probe)
  pub process : IsSome (process_of registry firing.pid)
  pub traced : IfSome (probe_of registry firing.probe) (λ probe. (pid : ℕ) → probe.class ≡ Pid pid → firing.pid ≡ pid)

abbrev pub IsForeign : Registry → Firing → Type 0
IsForeign registry firing = Belongs registry firing → ⊥

-- the probe of an identifier is numbered by it, and has the class of its provider
pub record IsNumbered (id : ℕ) (probe : Probe) : Type 0 where
  pub number : probe.id ≡ id
  pub class : IsClassOf probe.tuple.provider probe.class

-- a firing of a script knows its processor and its place, and belongs to the machine
pub record IsInScript (registry : Registry) (cpu place : ℕ) (firing : Firing) : Type 0 where
  pub processor : firing.cpu ≡ cpu
  pub row : firing.place ≡ place
  pub belongs : Belongs registry firing

-- What holds of every machine.
pub record IsSound (contents : Contents) : Type 0 where
  pub some_cpu : 1 ≤ contents.registry.cpus
  pub few_cpus : contents.registry.cpus ≤ cpus_max
  pub few_accounts : length contents.registry.accounts ≤ accounts_max
  pub names : AllPairs (λ a b. a.name ≢ b.name) contents.registry.accounts
  pub few_processes : length contents.registry.processes ≤ processes_max
  pub pids : AllPairs (λ a b. a.pid ≢ b.pid) contents.registry.processes
  pub small_pids : (pid : ℕ) → IfSome (process_of contents.registry pid) (λ process. process.pid ≤ pid_max)
  pub few_probes : length contents.registry.probes ≤ probe_id_max
  pub first : IsSomeAnd (probe_of contents.registry 1) (λ probe. SpellsTuple (codes "dtrace:::BEGIN") probe.tuple)
  pub second : IsSomeAnd (probe_of contents.registry 2) (λ probe. SpellsTuple (codes "dtrace:::END") probe.tuple)
  pub numbered : (id : ℕ) → IfSome (probe_of contents.registry id) (IsNumbered id)
  pub scripts : length contents.scripts ≡ contents.registry.cpus
  pub short : (cpu : ℕ) → IfSome (slice_get contents.scripts cpu) (λ script. length script ≤ script_max)
  pub placed : (cpu place : ℕ) → IfSome (firing_at contents.scripts cpu place) (IsInScript contents.registry cpu place)
