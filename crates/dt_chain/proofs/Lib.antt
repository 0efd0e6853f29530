-- The lemmas of this crate.
pub mod Listing
pub mod Looking
pub mod Agreeing
pub mod Marking
pub mod Showing
pub mod Publishing
pub mod Fronts
pub mod Adding
pub mod Rises
pub mod Pending
pub mod GoingOver
