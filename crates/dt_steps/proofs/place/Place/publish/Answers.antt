-- The interest of a session was published.
use Rattle.std.proofs.Common.{◌∙◌, sym}
use Rattle.dt_steps.specs.World.{life_in}
use Rattle.dt_steps.proofs.Publishing.{published-now}
use Rattle.dt_steps.proofs.place.Place.publish.Goals as goal

pub returns-in_ok-publish-in-Some : goal.returns-in_ok-publish-in-Some
returns-in_ok-publish-in-Some c = λ registry place writes h at.
    published-now registry place c.args.self.now h c.args.seat writes c.publish.new.self c.in-Some.session
    c.set_published.new.self c.in_ok-interest-in-Some.interest
    c.in_ok-interest-in-Some.interest.bounded c.in-Some.is
    (λ session kept. sym (c.is_unpublished.ensures registry session kept) ∙ c.if-is_unpublished.true)
    (c.set_published.ensures registry)
    (λ session kept. c.in_ok-interest-in-Some.ensures.named session.account registry (life_in registry session)
    kept.stands)
    (c.in_ok-publish-in-Some.ensures.ok writes at)
