-- What is left, and where variables and speculations are, after one statement.
use Rattle.std.proofs.Common.{[], ◌∷◌, sym, ap, subst}
use Rattle.dt_locals.specs.History.{Assignment, locals_after}
use Rattle.dt_locals.specs.LocalsAreAt.{LocalsAreAt}
use Rattle.dt_locals.specs.declared.locals.Locals.{Locals}
use Rattle.dt_speculation.specs.IsAt.{SpecsAt}
use Rattle.dt_speculation.specs.declared.speculations.Specs.{Specs}
use Rattle.dt_record.specs.Pasts.{TracingPast, past_then}
use Rattle.dt_record.specs.TracingAt.{TracingAt}
use Rattle.dt_record.specs.laws.Performing.{then_nothing}

module _ (past : TracingPast) (locals : Locals) (specs : Specs) (at : TracingAt past locals specs) where
  -- nothing came
  pub at_same : TracingAt (past_then past [] []) locals specs
  at_same = subst (λ p. TracingAt p locals specs) (sym (then_nothing past)) at

  -- an assignment came
  pub at_assigned : (assignment : Assignment) (now : Locals) → LocalsAreAt (locals_after past.locals assignment) now
      → TracingAt (past_then past (assignment ∷ []) []) now specs
  at_assigned assignment now stands = record {
    variables = stands;
    speculations = subst (λ p. SpecsAt p specs) (sym (ap (λ (p : TracingPast). p.specs) (then_nothing past))) at.speculations;
  }
