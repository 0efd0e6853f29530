-- The machine, and which files describe one.

-- What is promised.
pub mod Limits
pub mod BitWord
pub mod Interest
pub mod Registry
pub mod Shown
pub mod Context
pub mod Given
pub mod Shape
pub mod Rows
pub mod Found
pub mod Reading
pub mod Tests
pub mod Bounds
-- Private to the crate: no public contract names them.
pub mod Inside
pub mod ByPid
pub mod Sections
-- The laws of these.
pub mod laws
