-- Which records a buffer keeps of all that came to it, under each policy.

-- What is promised.
pub mod Limits
pub mod History
pub mod Choice
pub mod Beginning
pub mod Ending
pub mod Shows
pub mod Stores
pub mod IsAt
-- The laws of these.
pub mod laws
