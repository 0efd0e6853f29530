-- The bytes so far.
use Rattle.std.proofs.Common.{◌≡◌, take}
use Rattle.std.specs.List.{concat}
use Rattle.dt_alone.specs.Happened.{fitting_on}
use Rattle.dt_alone.proofs.shown.fitting_bytes.Given as goal

abbrev pub invariant-loop-one : goal.invariant-loop-one
invariant-loop-one l = l.all.items ≡ concat (fitting_on l.size l.cpu (take l.one-index l.happened))
