-- What holds at each turn of the loops of `first_fault`.
use Rattle.dt_names.specs.laws.Clean.{Scanned}
use Rattle.dt_names.proofs.desc.first_fault.Given as goal

abbrev pub invariant-loop-byte : goal.invariant-loop-byte
invariant-loop-byte l = Scanned l.text l.byte-index l.colons l.field_len
