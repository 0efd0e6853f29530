-- The lemmas of this crate's proofs.

pub mod MatchLemmas
pub mod ReadyLemmas
pub mod TestLemmas
pub mod TokenLemmas
