-- The lemmas of this crate.
pub mod Answering
pub mod Bits
pub mod ByPid
pub mod Exits
pub mod Faults
pub mod Firings
pub mod Lists
pub mod Padding
pub mod Registries
pub mod Searching
pub mod Shapes
pub mod Soundness
pub mod Spelling
pub mod Told
