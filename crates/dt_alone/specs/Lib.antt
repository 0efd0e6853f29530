-- What a consumer has that traces alone, and the verdict on a trail.

-- What is promised.
pub mod Items
pub mod Verdicts
pub mod VerdictText
-- Private to the crate: no public contract names them.
pub mod Happened
pub mod Kept
pub mod Shown
pub mod Runs
pub mod Answered
pub mod Parts
pub mod Lent
pub mod Compared
pub mod Judging
