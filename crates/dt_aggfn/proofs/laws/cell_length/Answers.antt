-- A cell has the function's words.
use Rattle.dt_aggfn.proofs.LengthLemmas.{length_cell}
use Rattle.dt_aggfn.proofs.laws.cell_length.Goals as goal

pub returns-clause-words : goal.returns-clause-words
returns-clause-words c = length_cell
