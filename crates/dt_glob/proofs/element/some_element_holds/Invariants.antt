-- What holds at each turn of the loops of `some_element_holds`.
use Rattle.std.proofs.Common.{List, length}
use Rattle.dt_glob.specs.declared.element.Element.{Element}
use Rattle.dt_glob.specs.Token.{ShowsElements}
use Rattle.dt_glob.proofs.TokenLemmas.{LeftOf}
use Rattle.dt_glob.proofs.element.some_element_holds.Given as goal

abbrev pub invariant-loop-element : goal.invariant-loop-element
invariant-loop-element l = (elements : List Element) → ShowsElements l.inside elements → LeftOf elements l.rest l.byte

abbrev pub decreases-loop-element : goal.decreases-loop-element
decreases-loop-element l = length l.rest
