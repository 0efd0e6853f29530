-- None of the program's uses so far clashes.
use Rattle.dt_ecb.proofs.ClashLemmas.{forms, NoneClash}
use Rattle.dt_ecb.proofs.clashes.first_clash.Given as goal

abbrev pub invariant-loop-place : goal.invariant-loop-place
invariant-loop-place l = NoneClash (forms l.accepted.uses.items) (forms l.own.uses.items) l.place
