-- The law of descriptions: one answer for each text.
use Rattle.dt_names.specs.laws.Answering.{some_answer}
use Rattle.dt_names.specs.laws.Clean.{never_both}
use Rattle.dt_names.proofs.desc.one_answer.Goals as goal

pub returns-clause-some_answer : goal.returns-clause-some_answer
returns-clause-some_answer c = some_answer

pub returns-clause-never_both : goal.returns-clause-never_both
returns-clause-never_both c = never_both
