-- What was read up to where the next token stands.
use Rattle.std.proofs.Common.{◌-◌, length}
use Rattle.dt_lang.specs.machine.ReaderView.{program_state_of}
use Rattle.dt_lang.proofs.ParseLemmas.{SoFar}
use Rattle.dt_lang.proofs.parse.read.Given as goal

abbrev pub invariant-tokens : goal.invariant-tokens
invariant-tokens l = SoFar l.text l.mode l.from (program_state_of l.reader)

abbrev pub decreases-tokens : goal.decreases-tokens
decreases-tokens l = length l.text - l.from
