-- The lemmas of the crate, lowest first.

pub mod Cuts
pub mod Decimals
pub mod Behind
pub mod StepLines
pub mod LineCuts
pub mod Streams
pub mod LineLists
pub mod Replying
pub mod Numbers
pub mod Offers
pub mod Looks
pub mod Telling
pub mod Firsts
pub mod Silences
pub mod Trails
pub mod After
pub mod OneOutput
pub mod Taken
