-- A variable has one process and one thread.
use Rattle.std.proofs.Common.{ap}
use Rattle.dt_locals.specs.declared.variable.LocalVariable.{LocalVariable}
use Rattle.dt_locals.proofs.laws.threads_apart.Goals as goal

pub returns-clause-processes : goal.returns-clause-processes
returns-clause-processes c = λ pid tid other thread name apart same. apart (ap (λ (v : LocalVariable). v.pid) same)

pub returns-clause-threads : goal.returns-clause-threads
returns-clause-threads c = λ pid tid other name apart same. apart (ap (λ (v : LocalVariable). v.tid) same)
