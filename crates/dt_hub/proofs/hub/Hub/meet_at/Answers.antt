-- What is to be shown of `meet_at`.
use Rattle.dt_hub.proofs.hub.Hub.meet_at.Goals as goal

pub returns-clause-whose : goal.returns-clause-whose
returns-clause-whose g c = rw (c.meet.ensures.session.1, c.meet.ensures.session.2) c.meet.ensures.whose

pub returns-clause-shared : goal.returns-clause-shared
returns-clause-shared g c = λ knew tracked.
    let shared = c.meet.ensures.shared knew tracked in
    (shared.0, rw (c.meet.ensures.session.3, c.meet.ensures.session.1) shared.1)
