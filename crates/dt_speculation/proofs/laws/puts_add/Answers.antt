-- What a put adds.
use Rattle.dt_speculation.specs.laws.Steps.{put_use}
use Rattle.dt_speculation.proofs.Definite.{added, added_elsewhere, added_unused}
use Rattle.dt_speculation.proofs.laws.puts_add.Goals as goal

pub returns-clause-uses : goal.returns-clause-uses
returns-clause-uses c = λ events other at bytes id. put_use id events other at bytes

pub returns-clause-there : goal.returns-clause-there
returns-clause-there c = added

pub returns-clause-elsewhere : goal.returns-clause-elsewhere
returns-clause-elsewhere c = added_elsewhere

pub returns-clause-unused : goal.returns-clause-unused
returns-clause-unused c = added_unused
