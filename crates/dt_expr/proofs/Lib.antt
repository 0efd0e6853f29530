-- Lemmas on the operators.
pub mod Wrapping
pub mod Facts
pub mod LeftSide
pub mod Joining
