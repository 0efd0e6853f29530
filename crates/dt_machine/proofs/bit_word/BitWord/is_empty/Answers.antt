-- No bit is set in zero alone.
use Rattle.std.proofs.Common.{arith}
use Rattle.dt_machine.proofs.Bits.{none_up}
use Rattle.dt_machine.proofs.bit_word.BitWord.is_empty.Goals as goal

pub returns : goal.returns
returns c = none_up c.args.self.now.bits (omega arith)
