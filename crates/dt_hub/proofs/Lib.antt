-- The lemmas of this crate.
pub mod Places
pub mod Offers
pub mod Publications
pub mod Tracks
pub mod Rounds
pub mod Alike
