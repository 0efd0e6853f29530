-- What is to be shown of `nothing_is_skipped`.
use Rattle.dt_meeting.specs.laws.Skipping.{none_skipped, told_skips_none}
use Rattle.dt_meeting.proofs.laws.nothing_is_skipped.Goals as goal

pub returns : goal.returns
returns c = record { stands = none_skipped; told = told_skips_none }
