-- The ECBs of the clauses so far.
use Rattle.std.proofs.Common.{◌≡◌, ◌*◌, ◌≤◌, false, length, map, take}
use Rattle.std.specs.List.{list_any}
use Rattle.dt_machine.specs.declared.limits.TheConstants.{PROBE_ID_MAX}
use Rattle.dt_program.specs.Program.{form_of_clause}
use Rattle.dt_ecb.specs.Enable.{is_unmatched}
use Rattle.dt_ecb.specs.Places.{keys_from, kept_from, kept_in}
use Rattle.dt_ecb.proofs.ecbs.ecbs_of.Given as goal

abbrev pub invariant-loop-place : goal.invariant-loop-place
invariant-loop-place l = record {
  value : map kept_in l.ecbs.items
      ≡ kept_from l.next_epid
      (keys_from l.account l.machine.registry 0 (map form_of_clause (take l.place l.clause-items)));
  few : length l.ecbs.items ≤ l.place * PROBE_ID_MAX;
  matched : list_any (is_unmatched l.account l.machine.registry) (map form_of_clause (take l.place l.clause-items))
      ≡ false;
}
