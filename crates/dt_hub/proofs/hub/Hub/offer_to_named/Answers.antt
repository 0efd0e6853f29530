-- What is to be shown of `offer_to_named`.
use Rattle.std.proofs.Common.{◌≡◌, ◌∙◌, rules, refl, false, length}
use Rattle.dt_chain.specs.Limits.{seat_count}
use Rattle.dt_chain.specs.Seats.{has}
use Rattle.dt_facts.specs.laws.Beginnings.{prefix_trans}
use Rattle.dt_hub.specs.Offering.{IsOfferedBut, missed_in}
use Rattle.dt_hub.proofs.Rounds.{all_placed, offered_same}
use Rattle.dt_hub.proofs.hub.Hub.offer_to_named.Given as given
use Rattle.dt_hub.proofs.hub.Hub.offer_to_named.Goals as goal

-- where some were missed, they are still to come
some_missed : (g : given.Over) → (c : goal.After-offer_to_missed g)
    → IsOfferedBut g.J.Traced.contents c.args.context.now.firing.now c.args.mask.now c.args.reader.now.seen c.args.followers.now.items (has c.in-Some.missed)
    c.offer_where_free.new.held.items c.offer_where_free.new.followers.items c.offer_where_free.new.reader.told
some_missed g c =
    offered_same g.J.Traced.contents c.args.context.now.firing.now c.args.mask.now c.args.reader.now.seen c.args.followers.now.items
    (missed_in c.offer_where_free.new.missed) (has c.in-Some.missed) c.offer_where_free.new.held.items c.offer_where_free.new.followers.items
    c.offer_where_free.new.reader.told c.in-Some.ensures c.offer_where_free.ensures.offered

-- and then none is to come any more
all_offered : (g : given.Over) → (c : goal.After-offer_to_missed g)
    → IsOfferedBut g.J.Traced.contents c.args.context.now.firing.now c.args.mask.now c.offer_where_free.new.reader.seen c.args.followers.now.items (λ _. false)
    c.offer_to_missed.new.held.items c.offer_to_missed.new.followers.items c.offer_to_missed.new.reader.told
all_offered g c = c.offer_to_missed.ensures.offered c.args.followers.now.items (rw c.offer_where_free.ensures.reader.0 (some_missed g c))

pub returns-in-Some-clause-seats : goal.returns-in-Some-clause-seats
returns-in-Some-clause-seats g c =
    all_placed g.J.Traced.contents c.args.context.now.firing.now c.args.mask.now c.offer_where_free.new.reader.seen c.args.followers.now.items (λ _. false)
    c.offer_to_missed.new.held.items c.offer_to_missed.new.followers.items c.offer_to_missed.new.reader.told (λ seat. refl) (all_offered g c)

pub returns-in-Some-clause-many : goal.returns-in-Some-clause-many
returns-in-Some-clause-many g c = let many : length c.offer_to_missed.new.held.items ≡ seat_count = (all_offered g c).answers in search rules

pub returns-in-Some-clause-each : goal.returns-in-Some-clause-each
returns-in-Some-clause-each g c = λ seat. (all_offered g c).each seat refl

pub returns-in-Some-clause-tracked : goal.returns-in-Some-clause-tracked
returns-in-Some-clause-tracked g c = λ log places h seat.
    (all_offered g c).tracked log places (rw c.offer_where_free.ensures.reader.0 h) seat refl

pub returns-in-Some-clause-reader : goal.returns-in-Some-clause-reader
returns-in-Some-clause-reader g c = (
  c.offer_to_missed.ensures.reader.0 ∙ c.offer_where_free.ensures.reader.0,
  prefix_trans _ _ _ c.offer_where_free.ensures.reader.1 c.offer_to_missed.ensures.reader.1,
)

pub returns-in-Some-clause-published : goal.returns-in-Some-clause-published
returns-in-Some-clause-published g c = λ seat. (all_offered g c).published seat refl

pub returns-in_default-clause-seats : goal.returns-in_default-clause-seats
returns-in_default-clause-seats g c =
    all_placed g.J.Traced.contents c.args.context.now.firing.now c.args.mask.now c.args.reader.now.seen c.args.followers.now.items
    (missed_in c.offer_where_free.new.missed) c.offer_where_free.new.held.items c.offer_where_free.new.followers.items
    c.offer_where_free.new.reader.told c.in_default.ensures c.offer_where_free.ensures.offered

pub returns-in_default-clause-many : goal.returns-in_default-clause-many
returns-in_default-clause-many g c =
    let many : length c.offer_where_free.new.held.items ≡ seat_count = c.offer_where_free.ensures.offered.answers in search rules

pub returns-in_default-clause-each : goal.returns-in_default-clause-each
returns-in_default-clause-each g c = λ seat.
    c.offer_where_free.ensures.offered.each seat (c.in_default.ensures seat)

pub returns-in_default-clause-tracked : goal.returns-in_default-clause-tracked
returns-in_default-clause-tracked g c = λ log places h seat.
    c.offer_where_free.ensures.offered.tracked log places h seat (c.in_default.ensures seat)

pub returns-in_default-clause-reader : goal.returns-in_default-clause-reader
returns-in_default-clause-reader g c = c.offer_where_free.ensures.reader

pub returns-in_default-clause-published : goal.returns-in_default-clause-published
returns-in_default-clause-published g c = λ seat.
    c.offer_where_free.ensures.offered.published seat (c.in_default.ensures seat)
