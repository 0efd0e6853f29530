-- Which rows a session's trail may have.

-- What is promised.

pub mod Rows
-- The laws of these.

pub mod laws
