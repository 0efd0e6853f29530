-- What holds at each turn of the loops of `is_taken`.
use Rattle.std.proofs.Common.{◌≢◌, All, take}
use Rattle.dt_cred.specs.declared.probe.Probe.{Probe}
use Rattle.dt_machine.proofs.probes.is_taken.Given as goal

abbrev pub invariant-loop-probe : goal.invariant-loop-probe
invariant-loop-probe l = All (λ (probe : Probe). probe.tuple ≢ l.tuple) (take l.probe-index l.probes)
