-- The lemmas of the crate, lowest first.

pub mod Beginning
pub mod Accounts
pub mod Soundness
pub mod Questions
pub mod Naming
pub mod Trails
pub mod Closing
pub mod Serving
pub mod Holding
pub mod Publishing
pub mod FreeSeats
pub mod Taking
pub mod Standing
