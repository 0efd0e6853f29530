-- What holds at each turn of the loops of `first_foreign`.
use Rattle.std.proofs.Common.{map}
use Rattle.dt_machine.specs.Registry.{Belongs}
use Rattle.dt_machine.specs.Reading.{AllRight}
use Rattle.dt_machine.specs.Sections.{registry_of}
use Rattle.dt_machine.proofs.Searching.{RightUpTo}
use Rattle.dt_machine.proofs.belonging.first_foreign.Given as goal

abbrev pub invariant-loop-cpu : goal.invariant-loop-cpu
invariant-loop-cpu l = RightUpTo (λ _ script. AllRight (λ _ firing. Belongs (registry_of l.sections) firing)
    script) (map (λ script. script.items) l.scripts) l.cpu
