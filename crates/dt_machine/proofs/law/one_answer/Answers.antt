-- What the proof of `one_answer` is told at its goals.
use Rattle.dt_machine.proofs.Answering as law
use Rattle.dt_machine.proofs.law.one_answer.Goals as goal

pub returns-clause-one_machine : goal.returns-clause-one_machine
returns-clause-one_machine c = law.one_machine

pub returns-clause-one_fault : goal.returns-clause-one_fault
returns-clause-one_fault c = law.one_fault

pub returns-clause-never_both : goal.returns-clause-never_both
returns-clause-never_both c = law.never_both
