-- The law of representatives.
use Rattle.std.specs.Int.{w64}
use Rattle.std.proofs.lemmas.Int.{SFits-int_wrap}
use Rattle.dt_expr.proofs.Facts.{wrapped_differs, only_one}
use Rattle.dt_expr.proofs.laws.representatives.Goals as goal

pub returns-clause-within : goal.returns-clause-within
returns-clause-within c = SFits-int_wrap w64

pub returns-clause-same : goal.returns-clause-same
returns-clause-same c = wrapped_differs

pub returns-clause-only_one : goal.returns-clause-only_one
returns-clause-only_one c = only_one
