-- Thread-local variables: which assignments are kept of all that came, and what a variable's value is.

-- What is promised.
pub mod Limits
pub mod History
pub mod Values
pub mod Kept
pub mod Chosen
pub mod LocalsAreAt
-- Private to the crate: no public contract names them.
pub mod Hash
pub mod Slots
-- The laws of these.
pub mod laws
