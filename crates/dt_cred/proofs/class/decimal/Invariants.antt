-- What the scan of a number knows at each digit.
use Rattle.dt_cred.proofs.Decimals.{Scanned}
use Rattle.dt_cred.proofs.class.decimal.Given as goal

abbrev pub invariant-loop-digit : goal.invariant-loop-digit
invariant-loop-digit l = Scanned l.digits l.digit-index l.number
