-- What the prover was told: of the runner, and then of trails.

pub mod Bringing
pub mod Firing
pub mod Leaving
pub mod Taken
pub mod Telling
pub mod ListSteps
pub mod Running
pub mod Showing
pub mod Replying
pub mod Recounting
pub mod Storing
pub mod Cuts
pub mod Decimals
pub mod TrailItems
pub mod Trails
pub mod Verdicts
pub mod Judging
pub mod SoFar
