-- The bit of the place is cleared.
use Rattle.std.proofs.Common.{arith}
use Rattle.std.proofs.lemmas.Bool.{eqb-true}
use Rattle.dt_machine.proofs.Bits.{up_clear, less_cleared}
use Rattle.dt_machine.proofs.bit_word.BitWord.remove.Goals as goal

pub returns-clause-others : goal.returns-clause-others
returns-clause-others c = λ other. up_clear c.args.self.now.bits c.args.number other (omega arith) (omega arith)

pub returns-clause-less : goal.returns-clause-less
returns-clause-less c = λ up. less_cleared c.args.self.now.bits c.args.number (omega arith) (eqb-true _ 1 up)
