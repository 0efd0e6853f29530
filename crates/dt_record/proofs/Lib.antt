-- The lemmas of this crate.
pub mod Adding
pub mod Bytes
pub mod Each
pub mod Examples
pub mod FieldLemmas
pub mod Fitting
pub mod Greatest
pub mod LeftMore
pub mod Loops
pub mod Performances
pub mod Unique
