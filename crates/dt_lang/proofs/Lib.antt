-- The lemmas of this crate's proofs.

pub mod FitsLaws
pub mod ShownLaws
pub mod ParseLemmas
pub mod PendingLemmas
pub mod Digits
pub mod Pieces
pub mod KindLemmas
