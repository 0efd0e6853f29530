-- The lemmas of this crate.
mod PowerLemmas
mod RowLemmas
mod BoundLemmas
mod LevelRowLemmas
mod CountLemmas
mod SumLemmas
mod LeastLemmas
mod AddLemmas
mod FirstLemmas
mod MergeLemmas
mod AnswerLemmas
mod OrderLemmas
mod LengthLemmas
mod OneRowLemmas
