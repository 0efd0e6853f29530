-- A reply beside the one that is due.
use Rattle.std.specs.Prelude.{◌≡◌, ◌≢◌, ℕ, List}
use Rattle.dt_alone.specs.declared.judge.Ruling.{Ruling}
use Rattle.dt_alone.specs.declared.judge.Ruling.TheVariants.{Right, Wrong, OutOfPlace}

abbrev pub IsCompared : (reply due : List ℕ) → Ruling → Type 0
IsCompared reply due Right = reply ≡ due
IsCompared reply due Wrong = reply ≢ due
IsCompared reply due OutOfPlace = ⊥
