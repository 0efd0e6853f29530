-- The ECBs of the probe so far.
use Rattle.std.proofs.Common.{◌≡◌, ◌==◌, filter, take}
use Rattle.dt_alone.proofs.programs.Programs.row.Given as goal

abbrev pub invariant-loop-ecb : goal.invariant-loop-ecb
invariant-loop-ecb l = l.row.items ≡ filter (λ ecb. ecb.probe == l.probe) (take l.ecb-index l.ecb-items)
