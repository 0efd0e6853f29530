-- What is to be shown of `named_is_published`.
use Rattle.dt_meeting.specs.laws.Looking.{mask_is_begun}
use Rattle.dt_meeting.proofs.laws.named_is_published.Goals as goal

pub returns : goal.returns
returns c = record { begun = mask_is_begun }
