-- The classes of probes, and the table of privileges.

-- What is promised.
pub mod Limits
pub mod Class
pub mod Rights
-- The laws of these.
pub mod laws
