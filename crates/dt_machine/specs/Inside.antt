-- What a machine's fields hold.
use Rattle.dt_machine.specs.Registry.{Contents, IsSound}
use Rattle.dt_machine.specs.Sections.{IsReady, contents_with, registry_of}
use Rattle.dt_machine.specs.declared.machine.Machine.TheInside.{Inside}

abbrev pub contents_of : Inside → Contents
contents_of a = contents_with (registry_of a.sections) a.scripts.items

-- The machine is sound, and its processes are found by their numbers.
pub record IsSoundInside (a : Inside) : Type 0 where
  pub sound : IsSound (contents_of a)
  pub ready : IsReady a.sections
