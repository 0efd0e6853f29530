-- Expressions, scenes, operators and values.

-- What is promised.
pub mod Form
pub mod Scene
pub mod Operators
pub mod Value
-- Private to the crate: no public contract names them.
pub mod Found
