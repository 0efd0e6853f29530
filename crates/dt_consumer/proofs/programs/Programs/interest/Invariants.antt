-- The probes of the ECBs so far.
use Rattle.std.proofs.Common.{take}
use Rattle.dt_consumer.proofs.Interests.{HasProbes}
use Rattle.dt_consumer.proofs.programs.Programs.interest.Given as goal

abbrev pub invariant-loop-ecb : goal.invariant-loop-ecb
invariant-loop-ecb l = HasProbes l.interest (take l.ecb-index l.ecb-items)
