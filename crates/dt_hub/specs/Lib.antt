-- A hub of seats, and what a processor has there.

-- What is promised.
pub mod Hubs
pub mod Firings
pub mod Offering
pub mod Asking
pub mod Tellings
pub mod Processors
pub mod Serving
pub mod Forgetting
pub mod Meetings
-- The laws of these.
pub mod laws
-- Private to the proofs: the names of the facts. No promise of a call names them.
pub mod Names
