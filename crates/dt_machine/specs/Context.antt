-- A firing with the probe and the process that it names.
use Rattle.std.specs.Prelude.{◌≡◌, Option, Some, option_and_then}
use Rattle.std.specs.Option.{option_map}
use Rattle.dt_cred.specs.declared.account.Process.{Process}
use Rattle.dt_cred.specs.declared.firing.Firing.{Firing}
use Rattle.dt_cred.specs.declared.probe.Probe.{Probe}
use Rattle.dt_machine.specs.Registry.{Registry, Belongs, probe_of, process_of}
use Rattle.dt_machine.specs.declared.context.Context.{Context}

-- a probe that fires in a process
pub record ContextForm : Type 0 where
  pub probe : Probe
  pub process : Process
  pub firing : Firing

-- a context without where its parts lie in memory
abbrev pub form_of_context : Context → ContextForm
form_of_context context = record { probe = context.probe.now; process = context.process.now; firing = context.firing.now }

-- a firing in a process, with the probe of the machine that it names
abbrev pub context_in : Registry → Option Process → Firing → Option ContextForm
context_in registry process firing = option_and_then
    (λ probe. option_map (λ process. record { probe = probe; process = process; firing = firing }) process)
    (probe_of registry firing.probe)

-- a firing, with the probe and the process of the machine that it names
abbrev pub context_of : Registry → Firing → Option ContextForm
context_of registry firing = context_in registry (process_of registry firing.pid) firing

-- The context is one of the machine's: its firing belongs to the machine, and names this probe and this process.
pub record IsContext (registry : Registry) (context : Context) : Type 0 where
  pub belongs : Belongs registry context.firing.now
  pub probe : probe_of registry context.firing.now.probe ≡ Some context.probe.now
  pub process : process_of registry context.firing.now.pid ≡ Some context.process.now
