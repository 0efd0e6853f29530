-- What is to be shown of `read_stands_together`.
use Rattle.dt_lang.specs.laws.TogetherLaws.{program_together}
use Rattle.dt_lang.proofs.parse.read_stands_together.Goals as goal

pub returns : goal.returns
returns c = λ text clauses is. program_together is.tokens clauses is.unrefused is.reads.reads
