-- No clause so far records the kernel's stack.
use Rattle.std.proofs.Common.{◌≡◌, false, map, take}
use Rattle.std.specs.List.{list_any}
use Rattle.dt_program.specs.Program.{form_of_clause}
use Rattle.dt_ecb.specs.Enable.{has_stack}
use Rattle.dt_ecb.proofs.faults.first_with_stack.Given as goal

abbrev pub invariant-loop-place : goal.invariant-loop-place
invariant-loop-place l = list_any has_stack (map form_of_clause (take l.place l.clause-items)) ≡ false
