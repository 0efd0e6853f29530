-- What lies under the lock of a seat, and what a session and a processor have there.

-- What is promised.
pub mod Seats
pub mod Trailed
pub mod Sessions
pub mod Places
pub mod Publications
pub mod Written
pub mod Receipts
pub mod Keeps
pub mod Tracked
pub mod Names
-- Private to the proofs: what the facts of a seat's lives say, and of what its sessions knew. No promise of a call names them.
pub mod Knowledge
-- The laws of these.
pub mod laws
