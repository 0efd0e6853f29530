-- The lemmas of this crate's proofs.

pub mod Padding
pub mod Names
pub mod Aligning
pub mod Tuples
