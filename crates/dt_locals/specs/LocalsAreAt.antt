-- When variables are at the end of a past.
use Rattle.std.specs.Prelude.{◌≡◌, ℕ, ◌/◌}
use Rattle.dt_locals.specs.Limits.{local_size}
use Rattle.dt_locals.specs.History.{LocalsPast}
use Rattle.dt_locals.specs.Values.{set_count}
use Rattle.dt_locals.specs.Chosen.{locals_choice, value_after, local_drops}
use Rattle.dt_locals.specs.Slots.{HasValue}
use Rattle.dt_locals.specs.declared.locals.Locals.{Locals}
use Rattle.dt_locals.specs.declared.variable.LocalVariable.{LocalVariable}

-- Variables are at the end of a past: there is room for as many as fit in its bytes, each has its value after it, and as many
-- aren't 0 and as many drops are counted as after it.
pub record LocalsAreAt (past : LocalsPast) (locals : Locals) : Type 0 where
  pub room : locals.table.room ≡ past.dynvarsize / local_size
  pub values : (variable : LocalVariable) → HasValue locals.table.slots.items variable (value_after past variable)
  pub taken : locals.table.taken ≡ set_count past.assignments (locals_choice past)
  pub dropped : locals.drops ≡ local_drops past

-- how many drops are counted
abbrev pub local_drops_of : Locals → ℕ
local_drops_of locals = locals.drops
