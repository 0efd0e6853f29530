-- The lemmas of the crate, lowest first.

pub mod Parts
pub mod Places
pub mod Uses
pub mod Pasts
pub mod Definite
pub mod Dropping
