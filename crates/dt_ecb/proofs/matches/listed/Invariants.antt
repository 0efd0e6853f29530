-- The listed ones of the probes so far.
use Rattle.std.proofs.Common.{◌≡◌, take, filter}
use Rattle.dt_program.specs.Description.{form_of_description}
use Rattle.dt_ecb.specs.Matching.{is_listed}
use Rattle.dt_ecb.proofs.matches.listed.Given as goal

abbrev pub invariant-loop-probe : goal.invariant-loop-probe
invariant-loop-probe l =
    let is_here = is_listed l.account l.machine.registry (form_of_description l.description) in
    l.probes.items ≡ filter is_here (take l.probe-index l.probe-items)
