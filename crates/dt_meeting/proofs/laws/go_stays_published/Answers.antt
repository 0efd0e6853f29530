-- What is to be shown of `go_stays_published`.
use Rattle.dt_meeting.specs.laws.Announcing.{published_among_own, published_longer}
use Rattle.dt_meeting.proofs.laws.go_stays_published.Goals as goal

pub returns : goal.returns
returns c = record { longer = published_longer; own = published_among_own }
