-- The lemmas of the crate, lowest first.

pub mod Names
pub mod Placed
pub mod ReplyLaws
