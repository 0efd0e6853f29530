-- The phase that tracing comes to by what reaches a consumer.
use Rattle.std.specs.Prelude.{Some, None, Ok}
use Rattle.std.specs.Option.{option_map_or}
use Rattle.dt_cred.specs.declared.account.Account.{Account}
use Rattle.dt_machine.specs.Registry.{Registry}
use Rattle.dt_life.specs.Ask.{stop, close}
use Rattle.dt_life.specs.Life.{Item, asked, fired, SetUp, end_by}
use Rattle.dt_life.specs.Takings.{TracingEvent, seen}
use Rattle.dt_life.specs.declared.phase.End.TheVariants.{Stop}
use Rattle.dt_life.specs.declared.phase.Phase.{Phase}
use Rattle.dt_life.specs.declared.phase.Phase.TheVariants.{Active, Stopped}

module _ (account : Account) (registry : Registry) where
  -- The phase after an event at which ECBs are taken: tracing goes on, or ends by an exit or by its history.
  abbrev pub phase_by_event : SetUp → TracingEvent → Phase
  phase_by_event s event =
      option_map_or (λ end. Stopped (Some end)) (end_by account registry s event) Active

  -- The phase of a consumer that traced, after what reaches it: it has stopped by a `stop`; by a `close`, without a cause;
  -- by a firing at which a clause exits, or which is the last of the history; else it goes on.
  abbrev pub phase_by_item : SetUp → Item → Phase
  phase_by_item s (asked (Ok stop)) = Stopped (Some Stop)
  phase_by_item s (asked (Ok close)) = Stopped None
  phase_by_item s (fired firing) = phase_by_event s (seen firing)
  phase_by_item s _ = Active
