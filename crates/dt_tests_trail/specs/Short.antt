-- Rows of at most so many items as their account says.
use Rattle.std.specs.Prelude.{◌≤◌, ℕ, List, ◌++◌, length}
use Rattle.std.proofs.Common.{arith, length-append}
use Rattle.dt_trail.specs.Items.{TrailItem}

abbrev pub IsShort : ℕ → List TrailItem → Type 0
IsShort most row = length row ≤ most

pub beginning : (most : ℕ) (xs ys : List TrailItem) → IsShort most (xs ++ ys) → IsShort most xs
beginning most xs ys h = omega (arith, length-append xs ys)
