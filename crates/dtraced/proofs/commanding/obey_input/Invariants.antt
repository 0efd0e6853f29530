-- No pull has failed, since the first that fails ends the reading.
use Rattle.std.proofs.Common.{◌≡◌}
use Rattle.dtraced.proofs.commanding.obey_input.Given as goal

abbrev pub invariant-loop : goal.invariant-loop
invariant-loop g l = l.input.failures ≡ 0
