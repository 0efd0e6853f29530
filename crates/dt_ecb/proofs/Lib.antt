-- The lemmas of this crate.
mod ProbeLemmas
mod FirstLemmas
mod ClashLaws
mod ClashLemmas
mod ShapeLemmas
mod EcbLaws
mod PlaceLemmas
mod VerdictLaws
mod EnableLemmas
mod NameLemmas
