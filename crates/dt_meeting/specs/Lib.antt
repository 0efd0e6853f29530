-- A row that a session and a processor share, and what a processor keeps track of until they meet.

-- What is promised.
pub mod Sharing
pub mod Stages
pub mod Tracking
pub mod Order
pub mod Keeping
-- The laws of these.
pub mod laws
