-- How a consumer keeps what its life has made of it, and what a draft says of a line.

-- What is promised.
pub mod Uses
pub mod Tallies
pub mod Placing
pub mod TracedEcbs
pub mod Keeps
pub mod StandsFor
pub mod Draft
-- Private to the crate: no public contract names them.
pub mod Counts
pub mod Recording
pub mod Enabling
-- The laws of these.
pub mod laws
