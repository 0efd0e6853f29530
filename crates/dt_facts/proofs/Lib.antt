-- The lemmas of this crate.
pub mod Lists
pub mod Fitting
pub mod Keeping
pub mod Growing
pub mod Uses
