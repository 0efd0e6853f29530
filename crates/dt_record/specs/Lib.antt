-- What a clause does where it is taken, and its records.

-- What is promised.
pub mod Limits
pub mod Pasts
pub mod TracingAt
pub mod Taking
pub mod Traced
pub mod Performance
pub mod Forms
pub mod Layout
pub mod Fields
pub mod Split
pub mod Records
pub mod Showing
pub mod Within
-- Private to the crate: no public contract names them.
pub mod Left
-- The laws of these.
pub mod laws
