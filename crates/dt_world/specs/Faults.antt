-- Which faults the parts of a replay may have.
use Rattle.std.specs.Prelude.{ℕ, List}
use Rattle.dt_machine.specs.Registry.{Contents}
use Rattle.dt_world.specs.Input.{input_lines, IsRefused}
use Rattle.dt_world.specs.declared.replays.ReplayFault.{ReplayFault}
use Rattle.dt_world.specs.declared.replays.ReplayFault.TheVariants.{Machine, Read, Line, Memory}

-- the machine file is refused, the first thing that is tested
abbrev pub IsOfMachine : ReplayFault → Type 0
IsOfMachine (Machine refused) = Unit {0}
IsOfMachine _ = ⊥

-- an input is not read where the reader fails, or where memory runs out
abbrev pub IsFaultOfReading : ReplayFault → Type 0
IsFaultOfReading Read = Unit {0}
IsFaultOfReading Memory = Unit {0}
IsFaultOfReading _ = ⊥

-- its lines are not all taken where one is refused, or where memory runs out
abbrev pub IsFaultOfLines : Contents → List ℕ → ReplayFault → Type 0
IsFaultOfLines contents text Memory = Unit {0}
IsFaultOfLines contents text (Line n) = IsRefused contents.registry (input_lines text) n
IsFaultOfLines contents text _ = ⊥
