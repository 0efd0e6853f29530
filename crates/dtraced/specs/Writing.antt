-- What a replay writes.
use Rattle.std.specs.Prelude.{ℕ, List, Option, Some, None}
use Rattle.dt_machine.specs.Registry.{Contents}
use Rattle.dt_world.specs.Replay.{IsReplay, IsTrailReplay}

-- The trail of the seat that is wanted; where none is, the replies.
abbrev pub IsWritten : Option ℕ → Contents → (text output : List ℕ) → Type 0
IsWritten None contents text output = IsReplay contents text output
IsWritten (Some seat) contents text output = IsTrailReplay contents text seat output
