-- So many bytes are added so far.
use Rattle.std.proofs.Common.{◌≡◌, ◌++◌, replicate}
use Rattle.dt_front.proofs.columns.push_repeated.Given as goal

abbrev pub invariant-loop : goal.invariant-loop
invariant-loop l = l.out.items ≡ l.fn.out.items ++ replicate l.counter l.byte
