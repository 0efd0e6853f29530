-- The lemmas of the crate, lowest first.

pub mod Keeping
pub mod Choices
pub mod Endings
pub mod Overwriting
pub mod Filling
pub mod Showing
pub mod Pasts
