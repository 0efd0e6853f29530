-- The items that are read are ready.
use Rattle.std.proofs.Common.{length}
use Rattle.dt_glob.proofs.ReadyLemmas.{GetsReady}
use Rattle.dt_glob.proofs.matcher.Matcher.of.Given as goal

abbrev pub invariant-loop-token : goal.invariant-loop-token
invariant-loop-token l = GetsReady l.pattern l.unread l.takers l.stars l.place

abbrev pub decreases-loop-token : goal.decreases-loop-token
decreases-loop-token l = length l.unread
