-- Matching, ECBs, shapes of aggregations, and whether a program is enabled.

-- What is promised.
pub mod Limits
pub mod Matching
pub mod Ecbs
pub mod Shapes
pub mod Enable
pub mod Fault
pub mod Forms
pub mod Interest
-- Private to the crate: no public contract names them.
pub mod Places
-- The laws of these.
pub mod laws
