-- What is told and counted of drops.
use Rattle.dt_speculation.specs.laws.Drops.{drops_more}
use Rattle.dt_speculation.proofs.Dropping.{told}
use Rattle.dt_speculation.proofs.laws.drops_told.Goals as goal

pub returns-clause-told : goal.returns-clause-told
returns-clause-told c = told c.one_choice.ensures.one

pub returns-clause-counted : goal.returns-clause-counted
returns-clause-counted c = drops_more
