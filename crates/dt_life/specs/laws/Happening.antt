-- What an event leaves of a set-up.
use Rattle.std.proofs.Common.{◌≡◌, Option, Some, None, refl}
use Rattle.std.specs.Option.{option_map_or}
use Rattle.dt_cred.specs.declared.account.Account.{Account}
use Rattle.dt_machine.specs.Registry.{Registry}
use Rattle.dt_life.specs.Life.{SetUp, end_by, happens, with_event}
use Rattle.dt_life.specs.Takings.{TracingEvent, ended}
use Rattle.dt_life.specs.declared.phase.End.{End}

-- what is the same of a set-up and one with further events
either_event : {X : Type 0} (f : SetUp → X) (s t : SetUp) (o : Option End)
    → ((end : End) → f (with_event t (ended end)) ≡ f s) → f t ≡ f s
    → f (option_map_or (λ end. with_event t (ended end)) o t) ≡ f s
either_event f s t None ends goes = goes
either_event f s t (Some end) ends goes = ends end

module _ (account : Account) (registry : Registry) (s : SetUp) (event : TracingEvent) where
  pub same_options : (happens account registry s event).options ≡ s.options
  same_options =
      either_event (λ x. x.options) s (with_event s event) (end_by account registry s event)
      (λ end. refl) refl

  pub same_clauses : (happens account registry s event).clauses ≡ s.clauses
  same_clauses =
      either_event (λ x. x.clauses) s (with_event s event) (end_by account registry s event)
      (λ end. refl) refl
