-- The descriptions so far are made ready.
use Rattle.std.proofs.Common.{◌≡◌, map, take}
use Rattle.dt_program.specs.Description.{form_of_description}
use Rattle.dt_ecb.proofs.description_matcher.DescriptionMatcher.of_each.Given as goal

abbrev pub invariant-loop-description : goal.invariant-loop-description
invariant-loop-description l = l.matchers.items ≡ map form_of_description (take l.description-index l.descriptions)
