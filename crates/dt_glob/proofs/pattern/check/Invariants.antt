-- What holds at each turn of the loops of `check`.
use Rattle.std.proofs.Common.{◌≡◌, ◌++◌, List, length}
use Rattle.dt_glob.specs.declared.sign.PatternSign.{PatternSign}
use Rattle.dt_glob.specs.Sign.{text_of_signs, AreSigns}
use Rattle.dt_glob.specs.Place.{StandsAt}
use Rattle.dt_glob.proofs.pattern.check.Given as goal

abbrev pub invariant-loop-sign : goal.invariant-loop-sign
invariant-loop-sign l = (signs : List PatternSign) × AreSigns signs × StandsAt l.place signs
    × (l.text ≡ text_of_signs signs ++ l.rest)

abbrev pub decreases-loop-sign : goal.decreases-loop-sign
decreases-loop-sign l = length l.rest
