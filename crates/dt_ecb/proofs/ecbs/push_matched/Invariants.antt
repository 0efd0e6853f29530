-- The ECBs of the matched probes so far are added.
use Rattle.std.proofs.Common.{◌≡◌, ◌+◌, ◌≤◌, ◌++◌, length, map, take}
use Rattle.dt_program.specs.Program.{form_of_clause}
use Rattle.dt_ecb.specs.Matching.{is_matched}
use Rattle.dt_ecb.specs.Places.{kept_in}
use Rattle.dt_ecb.proofs.PlaceLemmas.{kept_of}
use Rattle.dt_ecb.proofs.ecbs.push_matched.Given as goal

abbrev pub invariant-loop-probe : goal.invariant-loop-probe
invariant-loop-probe l = record {
  value : map kept_in l.ecbs.items
      ≡ map kept_in l.fn.ecbs.items
      ++ kept_of (l.first_epid + length l.fn.ecbs.items) l.place
      (is_matched l.account l.machine.registry (form_of_clause l.clause)) (take l.probe-index l.probe-items);
  few : length l.ecbs.items ≤ length l.fn.ecbs.items + l.probe-index;
}
