-- Within which bounds the numbers, texts and lists of a machine's parts lie.
use Rattle.std.specs.Prelude.{◌≡◌, ℕ, ◌^◌, ◌<◌, ◌≤◌, List, length, IfSome, FitsSigned}
use Rattle.std.specs.Int.{w64}
use Rattle.std.specs.List.{AllByRecursion}
use Rattle.dt_names.specs.Limits.{name_max, short_text_max}
use Rattle.dt_cred.specs.Limits.{argument_count, frame_count}
use Rattle.dt_cred.specs.declared.account.Process.{Process}
use Rattle.dt_cred.specs.declared.probe.Probe.{Probe}
use Rattle.dt_cred.specs.declared.firing.Firing.{Firing}
use Rattle.dt_machine.specs.Limits.{cpus_max, pid_max, probe_id_max}
use Rattle.dt_machine.specs.Registry.{Contents, account_of, process_of, probe_of, firing_at}

pub record IsProcessInBounds (process : Process) : Type 0 where
  pub pid : process.pid ≤ pid_max
  pub uid : process.uid < 2 ^ 32
  pub execname : length process.execname ≤ short_text_max

pub record IsProbeInBounds (probe : Probe) : Type 0 where
  pub id : probe.id ≤ probe_id_max
  pub provider : length probe.tuple.provider ≤ name_max
  pub «module» : length probe.tuple.module ≤ name_max
  pub function : length probe.tuple.function ≤ name_max
  pub name : length probe.tuple.name ≤ name_max

-- a frame of a stack has 64 bits
abbrev pub IsFrameInBounds : ℕ → Type 0
IsFrameInBounds frame = frame < 2 ^ 64

pub record IsFiringInBounds (firing : Firing) : Type 0 where
  pub cpu : firing.cpu < cpus_max
  pub pid : firing.pid ≤ pid_max
  pub tid : firing.tid < 2 ^ 32
  pub timestamp : FitsSigned w64 firing.timestamp
  pub args : length firing.args ≡ argument_count
  pub kstack : length firing.kstack ≡ frame_count
  pub ustack : length firing.ustack ≡ frame_count
  pub args_fit : AllByRecursion (FitsSigned w64) firing.args
  pub kstack_fit : AllByRecursion IsFrameInBounds firing.kstack
  pub ustack_fit : AllByRecursion IsFrameInBounds firing.ustack

-- What holds of the parts of a machine.
pub record IsInBounds (contents : Contents) : Type 0 where
  pub uids : (name : List ℕ) → IfSome (account_of contents.registry name) (λ account. account.uid < 2 ^ 32)
  pub processes : (pid : ℕ) → IfSome (process_of contents.registry pid) IsProcessInBounds
  pub probes : (id : ℕ) → IfSome (probe_of contents.registry id) IsProbeInBounds
  pub firings : (cpu place : ℕ) → IfSome (firing_at contents.scripts cpu place) IsFiringInBounds
