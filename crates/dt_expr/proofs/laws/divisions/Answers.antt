-- The law of divisions.
use Rattle.std.proofs.Common.{refl}
use Rattle.std.proofs.lemmas.Int.{quot-rem}
use Rattle.dt_expr.proofs.Facts.{smaller, rem_above, rem_under}
use Rattle.std.specs.Int.{int_wrap}
use Rattle.dt_expr.proofs.laws.divisions.Goals as goal

pub returns-clause-whole : goal.returns-clause-whole
returns-clause-whole c = quot-rem

pub returns-clause-smaller : goal.returns-clause-smaller
returns-clause-smaller c = smaller

pub returns-clause-above : goal.returns-clause-above
returns-clause-above c = rem_above

pub returns-clause-below : goal.returns-clause-below
returns-clause-below c = rem_under

pub returns-clause-least : goal.returns-clause-least
unfolding int_wrap
returns-clause-least c = refl

pub returns-clause-least_remainder : goal.returns-clause-least_remainder
returns-clause-least_remainder c = refl
