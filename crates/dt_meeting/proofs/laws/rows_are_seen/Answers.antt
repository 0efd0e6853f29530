-- What is to be shown of `rows_are_seen`.
use Rattle.dt_meeting.specs.laws.Seen.{legal_is_seen, seen_starts}
use Rattle.dt_meeting.proofs.laws.rows_are_seen.Goals as goal

pub returns : goal.returns
returns c = record { legal = legal_is_seen; begins = seen_starts }
