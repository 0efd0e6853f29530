-- What is to be shown of `keeping_goes_on`.
use Rattle.dt_meeting.specs.laws.Keeping.{keeps_gone, keeps_kept, keeps_known, keeps_looked, keeps_new, keeps_offered, keeps_passed, keeps_shared, keeps_unseen, keeps_writes}
use Rattle.dt_meeting.proofs.laws.keeping_goes_on.Goals as goal

pub returns : goal.returns
returns c = record {
  new = keeps_new;
  writes = keeps_writes;
  known = keeps_known;
  passed = keeps_passed;
  looked = keeps_looked;
  gone = keeps_gone;
  unseen = keeps_unseen;
  kept = keeps_kept;
  offered = keeps_offered;
  shared = keeps_shared;
}
