-- The bit of the place is set.
use Rattle.std.proofs.Common.{arith}
use Rattle.dt_machine.proofs.Bits.{up_set}
use Rattle.dt_machine.proofs.bit_word.BitWord.insert.Goals as goal

pub returns : goal.returns
returns c = λ other. up_set c.args.self.now.bits c.args.number other (omega arith)
