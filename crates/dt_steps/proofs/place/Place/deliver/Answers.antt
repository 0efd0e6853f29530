-- A firing reaches the session that was named, and a `go` that is pending there stays ready.
use Rattle.dt_life.specs.laws.Seeing.{seen_told}
use Rattle.dt_steps.specs.World.{DueOffer, life_in}
use Rattle.dt_steps.proofs.Holding.{offered-session, seen-session}
use Rattle.dt_steps.proofs.Serving.{served_offered}
use Rattle.dt_steps.proofs.place.Place.deliver.Goals as goal

pub invariant_of-session : goal.invariant_of-session
invariant_of-session c = record {
  ready = λ waiting at. c.offer_shown.ensures.drafts waiting.draft (c.in-Some.session.ready waiting at);
}

pub returns-in-Some-clause-seen : goal.returns-in-Some-clause-seen
returns-in-Some-clause-seen c = λ place h context shown.
    let registry = c.args.machine.now.registry in
    let firing = c.args.context.now.firing.now in
    let due : DueOffer = record { life = c.args.life; firing = firing } in
    seen-session registry place c.args.self.now h due c.offer_shown.result c.in-Some.session c.in-Some.is
    c.if-life-self.false shown
    (λ session s may. seen_told session.account registry (life_in registry session) firing c.offer_shown.result
    (c.offer_shown.ensures.sees session.account (life_in registry session) s.stands context may))

pub returns-in-Some-clause-reached : goal.returns-in-Some-clause-reached
returns-in-Some-clause-reached c = λ place h context shown.
    let registry = c.args.machine.now.registry in
    let firing = c.args.context.now.firing.now in
    let due : DueOffer = record { life = c.args.life; firing = firing } in
    offered-session registry place c.args.self.now h due c.in-Some.session _ c.in-Some.is c.if-life-self.false shown
    (λ session s may.
    let life = life_in registry session in
    served_offered registry session.account life firing session.go c.in-Some.session c.offer_shown.new.self
    c.offer_shown.result _ s (record {
      sees = c.offer_shown.ensures.sees session.account life s.stands context may;
      stands = c.offer_shown.ensures.seen session.account life s.stands context may;
      unseen = c.offer_shown.ensures.unseen;
    }))
