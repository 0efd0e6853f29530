-- The lemmas of the crate, lowest first.

pub mod Tallying
pub mod Parting
pub mod Counted
pub mod Leaving
pub mod Turning
pub mod TracedEcbs
pub mod Listing
pub mod Giving
pub mod Tracings
pub mod Snapping
pub mod Stands
pub mod Seeing
pub mod DraftLemmas
pub mod Interests
pub mod Idle
pub mod Telling
pub mod StoresTold
pub mod Quiet
pub mod BareTakings
pub mod Closing
pub mod Drafting
