-- Who publishes, with a book of all that each seat wrote.

-- What is promised.
pub mod Publishers
-- The laws of these.
pub mod laws
