-- What is wrong with a token as a cause, and how a cause is written.
use Rattle.std.specs.Prelude.{ℕ, List, codes}
use Rattle.dt_lang.specs.declared.fault.Flaw.{Flaw}
use Rattle.dt_lang.specs.declared.fault.Flaw.TheVariants as flaw
use Rattle.dt_lang.specs.declared.fault.Why.{Why}
use Rattle.dt_lang.specs.declared.fault.Why.TheVariants.{Syntax, Probe, Action, Variable, TooLong, Range, Spec}

-- the word for a cause
abbrev pub why_word : Why → List ℕ
why_word Syntax = codes "Syntax"
why_word Probe = codes "Probe"
why_word Action = codes "Action"
why_word Variable = codes "Variable"
why_word TooLong = codes "TooLong"
why_word Range = codes "Range"
why_word Spec = codes "Spec"

-- the cause, without what was found
abbrev pub why_of : Flaw → Why
why_of flaw.Syntax = Syntax
why_of (flaw.Probe fault) = Probe
why_of flaw.Action = Action
why_of flaw.Variable = Variable
why_of (flaw.TooLong limit) = TooLong
why_of (flaw.Range fault) = Range
why_of flaw.Spec = Spec
