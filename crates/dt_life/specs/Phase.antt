-- How a phase and a cause are written.
use Rattle.std.specs.Prelude.{ℕ, List, codes}
use Rattle.dt_life.specs.declared.phase.End.{End}
use Rattle.dt_life.specs.declared.phase.End.TheVariants.{Stop, Exit, History}
use Rattle.dt_life.specs.declared.phase.Phase.{Phase}
use Rattle.dt_life.specs.declared.phase.Phase.TheVariants.{Inactive, Active, Stopped}

-- the word for a phase
abbrev pub phase_word : Phase → List ℕ
phase_word Inactive = codes "inactive"
phase_word Active = codes "active"
phase_word (Stopped cause) = codes "stopped"

-- the word for why tracing ended
abbrev pub cause_word : End → List ℕ
cause_word Stop = codes "stop"
cause_word (Exit status) = codes "exit"
cause_word History = codes "history"
