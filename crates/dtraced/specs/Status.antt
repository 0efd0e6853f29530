-- The fault where the words can't be had, and the status that the program ends with.
use Rattle.std.specs.Prelude.{ℕ}
use Rattle.dt_alone.specs.declared.verdict.Verdict.{Verdict}
use Rattle.dt_alone.specs.declared.verdict.Verdict.TheVariants.{Agree}
use Rattle.dtraced.specs.declared.fault.Fault.{Fault}
use Rattle.dtraced.specs.declared.fault.Fault.TheVariants.{Check, Device, Usage}
use Rattle.std.specs.declared.io.ErrorKind.{ErrorKind}
use Rattle.std.specs.declared.io.ErrorKind.TheVariants.{InvalidData}

-- 2 where the words are none of the program's forms, 1 at any other fault
abbrev pub status_of : Fault → ℕ
status_of Usage = 2
status_of _ = 1

-- 0 where a trail agrees, 1 where it doesn't
abbrev pub status_found : Verdict → ℕ
status_found (Agree _) = 0
status_found _ = 1

-- The faults of a check whose machine was read: its text isn't judged, or its line couldn't be written.
abbrev pub IsOfCheck : Fault → Type 0
IsOfCheck (Check fault) = Unit {0}
IsOfCheck Device = Unit {0}
IsOfCheck _ = ⊥

-- words that aren't UTF-8 are words of no form; whatever else fails is a device
abbrev pub fault_of_words : ErrorKind → Fault
fault_of_words InvalidData = Usage
fault_of_words _ = Device
