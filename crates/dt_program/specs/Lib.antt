-- What clauses are, without where they lie in memory.

-- What is promised.
pub mod Limits
pub mod Bounds
pub mod Description
pub mod Clause
pub mod Kinds
pub mod Program
pub mod Written
-- The laws of these.
pub mod laws
