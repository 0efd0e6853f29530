-- What is to be shown of `tracking_goes_on`.
use Rattle.dt_meeting.specs.laws.Tracking.{tracks_kept, tracks_known, tracks_new, tracks_passed, tracks_shared, tracks_unseen, tracks_writes}
use Rattle.dt_meeting.proofs.laws.tracking_goes_on.Goals as goal

pub returns : goal.returns
returns c = record {
  new = tracks_new;
  writes = tracks_writes;
  known = tracks_known;
  passed = tracks_passed;
  unseen = tracks_unseen;
  kept = tracks_kept;
  shared = tracks_shared;
}
