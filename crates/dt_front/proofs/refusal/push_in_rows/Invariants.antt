-- The rows so far are added, each with its newline.
use Rattle.std.proofs.Common.{◌≡◌, ◌++◌}
use Rattle.dt_front.specs.Refusals.{full_rows}
use Rattle.dt_front.proofs.refusal.push_in_rows.Given as goal

abbrev pub invariant-loop-row : goal.invariant-loop-row
invariant-loop-row l = l.out.items ≡ l.fn.out.items ++ full_rows l.page l.text l.row
