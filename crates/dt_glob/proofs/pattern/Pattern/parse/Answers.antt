-- What the proof of `Pattern::parse` is told at its goals.
use Rattle.dt_glob.specs.Spells.{Spells}
use Rattle.dt_glob.specs.Reading.{items_of_text}
use Rattle.dt_glob.specs.laws.Readings.{items_of_text-spelled}
use Rattle.dt_glob.proofs.pattern.Pattern.parse.Goals as goal

spelled : (c : goal.In-Ok) → Spells c.args.text.now (items_of_text c.args.text.now)
spelled c = let h = c.in_ok-check.ensures.found in rw (items_of_text-spelled c.args.text.now h.0 h.1) h.1

pub invariant_of-result : goal.invariant_of-result
invariant_of-result c = rw c.in-Ok.ensures.0 (spelled c)

pub returns-clause-found : goal.returns-clause-found
returns-clause-found c = rw c.in-Ok.ensures.0 (spelled c)
