-- What the proofs of this crate share.
pub mod Rows
pub mod Plain
pub mod Bars
pub mod Added
pub mod Told
pub mod Words
pub mod Known
pub mod FunctionRows
pub mod Lines
pub mod PlainRows
pub mod PlainTables
pub mod PlainRefusals
pub mod PlainLabels
