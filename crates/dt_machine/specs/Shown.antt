-- Which firings an account is shown.
use Rattle.std.specs.Prelude.{◌≡◌, Some, IsTrue}
use Rattle.dt_cred.specs.Rights as rights
use Rattle.dt_cred.specs.declared.account.Account.{Account}
use Rattle.dt_cred.specs.declared.account.Process.{Process}
use Rattle.dt_cred.specs.declared.probe.Probe.{Probe}
use Rattle.dt_machine.specs.Registry.{Registry, probe_of, process_of}
use Rattle.dt_cred.specs.declared.firing.Firing.{Firing}

-- The account is shown the firing: its class of probe in that mode and that process.
abbrev pub IsShown : Account → Registry → Firing → Type 0
IsShown account registry firing =
    (probe : Probe) (process : Process)
    → probe_of registry firing.probe ≡ Some probe → process_of registry firing.pid ≡ Some process
    → IsTrue (rights.admits account probe.class firing.mode process)
