-- What lies after the hole so far stays, and what moved left its place as the hole.
use Rattle.std.proofs.Common.{◌≡◌, ◌<◌, ℤ, length}
use Rattle.std.specs.Prelude.{pos}
use Rattle.dt_locals.specs.Hash.{home_in}
use Rattle.dt_locals.specs.Slots.{AreHashedBut, HasValue, taken_count, value_at}
use Rattle.dt_locals.specs.declared.variable.LocalVariable.{LocalVariable}
use Rattle.dt_locals.proofs.Closing.{AllStay}
use Rattle.dt_locals.proofs.slots.close_up.Given as goal

abbrev pub invariant-loop-place : goal.invariant-loop-place
invariant-loop-place l = record {
  order : l.gap < l.place;
  within : l.gap < length l.slots;
  hashed : AreHashedBut (home_in l.beginnings) l.slots l.gap;
  free : value_at l.slots l.gap ≡ pos 0;
  stay : AllStay (home_in l.beginnings) l.slots l.gap l.place;
  values : (variable : LocalVariable) (value : ℤ) → HasValue l.fn.slots variable value → HasValue l.slots variable value;
  taken : taken_count l.slots ≡ taken_count l.fn.slots;
  long : length l.slots ≡ length l.fn.slots;
}
