-- How far the writes of a seat have come with one of its lives. A seat's writes have the oldest first.
use Rattle.std.specs.Prelude.{ℕ, Bool, List, ◌==◌, fold, if◌then◌else◌}
use Rattle.dt_chain.specs.Writes.{Write, published, withdrawn}

-- A life wasn't published yet; its publication, with these probes, is the seat's last write; or another write came after it.
pub data Stage : Type 0 where
  never : Stage
  named : (probes : List Bool) → Stage
  past : Stage

abbrev pub next_stage : ℕ → Stage → Write → Stage
next_stage life never (published seat other account probes) = if other == life then named probes else never
next_stage life never (withdrawn seat) = never
next_stage life (named earlier) (published seat other account probes) = if other == life then named probes else past
next_stage life (named earlier) (withdrawn seat) = past
next_stage life past write = past

-- the stage of a life after all writes of its seat: a life that is published again is named by its last publication
abbrev pub stage : ℕ → List Write → Stage
stage life writes = fold (next_stage life) never writes
