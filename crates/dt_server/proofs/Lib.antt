-- What the proofs of the crate need. Lowest first.
pub mod Streams
pub mod Answering
pub mod Talking
