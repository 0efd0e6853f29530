-- Who published what, what a look finds, and the chains.

-- What is promised.
pub mod Limits
pub mod Writes
pub mod Kinds
pub mod Look
pub mod Seats
pub mod Named
pub mod IsAt
pub mod Tests
pub mod Chains
-- The laws of these.
pub mod laws
-- Private to the proofs: what holds of the fields, and the book in which the writes are kept. A caller needs none of them.
pub mod Listed
pub mod Lists
pub mod Kept
pub mod Books
pub mod Copies
