-- What holds at each turn of the loops of `first_foreign_in`.
use Rattle.dt_machine.specs.Registry.{Belongs}
use Rattle.dt_machine.specs.Sections.{registry_of}
use Rattle.dt_machine.proofs.Searching.{RightUpTo}
use Rattle.dt_machine.proofs.belonging.first_foreign_in.Given as goal

abbrev pub invariant-loop-place : goal.invariant-loop-place
invariant-loop-place l = RightUpTo (λ _ firing. Belongs (registry_of l.sections) firing) l.script l.place
