-- When the draft of a pending `go` can be applied to its consumer. That is a fact with one proof at most, which a ghost field
-- needs.
use Rattle.std.proofs.Common.{Option}
use Rattle.std.proofs.Props.{props}
use Rattle.std.specs.Option.{ForSome}
use Rattle.dt_consumer.specs.Draft.{CanApply}
use Rattle.dt_consumer.specs.declared.consumer.Consumer.{Consumer}
use Rattle.dt_consumer.specs.laws.Applying.{can_apply_prop}
use Rattle.dt_steps.specs.declared.session.Pending.{Pending}

-- The draft of a pending `go`, if there is one, can be applied to the consumer.
abbrev pub GoIsReady : Consumer → Option Pending → Type 0
GoIsReady consumer go = ForSome go (λ waiting. CanApply consumer waiting.draft)

pub ready_prop : (consumer : Consumer) (go : Option Pending) → IsProp (GoIsReady consumer go)
ready_prop consumer go = hlevel (can_apply_prop, props)
