-- A buffer shows its past; where the consumer never traced, nothing.
use Rattle.std.proofs.Common.{false, [], refl, ap}
use Rattle.dt_life.specs.Answer.{snapped}
use Rattle.dt_life.specs.Buffers.{past}
use Rattle.dt_life.specs.Life.{set_up}
use Rattle.dt_consumer.proofs.Drafting.{shown_all}
use Rattle.dt_consumer.proofs.Quiet.{nothing_shown}
use Rattle.dt_consumer.proofs.consumer.Consumer.shown.Goals as goal

pub returns : goal.returns
returns c = λ account registry life s there.
    let tried = past account registry life c.args.cpu in
    let has = c.in-Some.ensures account registry life s there in (
      c.in_ok-content.field-0.items,
      c.drops.result,
      c.filled.result,
      shown_all c.one_shown.ensures tried c.in_ok-content.field-0.items c.drops.result
          c.filled.result (c.in_ok-content.ensures tried has.stands) (c.drops.ensures.shows tried has.stands)
          (c.filled.ensures tried has.stands),
      refl,
    )

pub returns-in_default : goal.returns-in_default
returns-in_default c = λ account registry life s there. (
  [],
  0,
  false,
  nothing_shown account registry (set_up account registry life) c.args.cpu
      (c.in_default.ensures account registry life s there),
  ap (λ bytes. snapped c.args.cpu bytes 0 false) c.new.ensures.items,
)
