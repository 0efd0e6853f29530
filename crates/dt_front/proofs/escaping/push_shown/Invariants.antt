-- What is shown for the bytes so far is added.
use Rattle.std.proofs.Common.{◌≡◌, ◌++◌, take}
use Rattle.dt_front.specs.Escaping.{shown}
use Rattle.dt_front.proofs.escaping.push_shown.Given as goal

abbrev pub invariant-loop-byte : goal.invariant-loop-byte
invariant-loop-byte l = l.out.items ≡ l.fn.out.items ++ shown (take l.byte-index l.bytes)
