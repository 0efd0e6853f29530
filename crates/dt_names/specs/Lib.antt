-- What a name, a probe's text and a probe description are.

-- What is promised.
pub mod Limits
pub mod Bytes
pub mod ShortText
pub mod Name
pub mod Desc
pub mod Tuple
-- The laws of these.
pub mod laws
