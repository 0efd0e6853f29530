-- What holds at each turn of a loop of `value_of_digits`.
use Rattle.std.proofs.Common.{◌≡◌, take}
use Rattle.std.specs.Str.Parse.{digits_value, AllDigits}
use Rattle.dt_lang.proofs.number.value_of_digits.Given as goal

abbrev pub invariant-loop-byte : goal.invariant-loop-byte
invariant-loop-byte l = AllDigits l.radix (take l.byte-index l.digits)
    × (l.value ≡ digits_value l.radix (take l.byte-index l.digits))
