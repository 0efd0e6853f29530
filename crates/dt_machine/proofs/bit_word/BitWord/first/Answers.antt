-- The least place that is taken is that of the lowest one.
use Rattle.std.proofs.Common.{arith}
use Rattle.dt_machine.proofs.Bits.{lowest_one, none_far}
use Rattle.dt_machine.proofs.bit_word.BitWord.first.Goals as goal

pub returns-then-number-lt-WORD_BITS : goal.returns-then-number-lt-WORD_BITS
returns-then-number-lt-WORD_BITS c = lowest_one c.args.self.now.bits (omega arith) (omega arith)

pub returns-else-number-lt-WORD_BITS : goal.returns-else-number-lt-WORD_BITS
returns-else-number-lt-WORD_BITS c = none_far c.args.self.now.bits (omega arith) (omega arith)
