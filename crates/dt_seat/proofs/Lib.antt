-- The lemmas of this crate.
pub mod Begins
pub mod Published
pub mod Known
pub mod Hearing
pub mod Tellings
pub mod Lending
pub mod Sitting
pub mod Kept
pub mod Offering
pub mod Openings
pub mod Trails
pub mod Seats
pub mod Owning
pub mod Writing
pub mod Holds
pub mod Tells
pub mod Meets
