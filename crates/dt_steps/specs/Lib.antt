-- The world of many consumers: what its steps do, and what a run of them answers.

-- What is promised.
pub mod World
pub mod Steps
pub mod Sound
pub mod Ran
pub mod Trails
pub mod Stands
-- Private to the crate: no public contract names them.
pub mod Ready
pub mod Telling
-- The laws of these.
pub mod laws
