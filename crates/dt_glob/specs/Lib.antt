-- Patterns: what texts spell, what they match, and their faults.

-- What is promised.
pub mod Limits
pub mod Sign
pub mod PatternItem
pub mod Matches
pub mod Test
pub mod Spells
pub mod Fault
pub mod Reading
-- Private to the crate: no public contract names them.
pub mod Place
pub mod Token
pub mod Ready
-- The laws of these.
pub mod laws
