-- What is to be shown of `writes_stay_in_order`.
use Rattle.dt_meeting.specs.laws.Ordering.{in_order_ended, in_order_new, in_order_published, in_order_trail}
use Rattle.dt_meeting.proofs.laws.writes_stay_in_order.Goals as goal

pub returns : goal.returns
returns c = record {
  new = in_order_new;
  published = in_order_published;
  ended = in_order_ended;
  trail = in_order_trail;
}
