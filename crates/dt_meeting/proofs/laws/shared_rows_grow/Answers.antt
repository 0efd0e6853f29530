-- What is to be shown of `shared_rows_grow`.
use Rattle.dt_meeting.specs.laws.Sharing.{shared_grows, shared_kept, shared_late, shared_new, shared_unseen}
use Rattle.dt_meeting.proofs.laws.shared_rows_grow.Goals as goal

pub returns : goal.returns
returns c = record { new = shared_new; trail = shared_grows; unseen = shared_unseen; kept = shared_kept; late = shared_late }
