-- Speculative buffers: which identifiers are in use after all that came, and what is kept of the records put under them.

-- What is promised.
pub mod Limits
pub mod History
pub mod Uses
pub mod Records
pub mod Answers
pub mod Parts
pub mod IsAt
-- The laws of these.
pub mod laws
