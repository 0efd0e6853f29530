-- What is to be shown of `seen`.
use Rattle.dt_seat.proofs.Sitting.{notebook_goes_on, session_goes_on}
use Rattle.dt_seat.proofs.session.Session.seen.Goals as goal

pub invariant_of-self : goal.invariant_of-self
invariant_of-self g c =
    let h = c.self.invariant in
    let grows = c.catch_up-count.ensures.grows in (
      rw c.go_on.ensures
          (session_goes_on _ _ _ _ _ _ _ _ c.self.inside.notebook.note c.catch_up-count.new.self h.0 grows.row grows.longer),
      notebook_goes_on _ _ _ c.self.inside.notebook.note c.catch_up-count.new.self _ _ h.1 grows,
    )

pub returns-clause-own_go : goal.returns-clause-own_go
returns-clause-own_go g c =
    (notebook_goes_on _ _ _ c.self.inside.notebook.note c.catch_up-count.new.self _ _ c.self.invariant.1 c.catch_up-count.ensures.grows).published
