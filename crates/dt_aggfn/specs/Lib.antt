-- Aggregating functions: their bounds, their rows, the cell of a bag of values, and what is answered of it.

-- What is promised.
pub mod Limits
pub mod Bounds
pub mod BoundsOf
pub mod Rows
pub mod Cells
pub mod Answers
-- Private to the crate: no public promise names it.
pub mod Scales
-- The laws of these.
pub mod laws
