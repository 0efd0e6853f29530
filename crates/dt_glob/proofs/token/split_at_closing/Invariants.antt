-- What holds at each turn of the loops of `split_at_closing`.
use Rattle.std.proofs.Common.{length}
use Rattle.dt_glob.proofs.TokenLemmas.{Seeks}
use Rattle.dt_glob.proofs.token.split_at_closing.Given as goal

abbrev pub invariant-loop-sign : goal.invariant-loop-sign
invariant-loop-sign l = Seeks l.text l.inside l.rest

abbrev pub decreases-loop-sign : goal.decreases-loop-sign
decreases-loop-sign l = length l.rest
