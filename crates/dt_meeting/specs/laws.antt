-- What holds of shared rows, of stages, and of what is kept track of. Lowest first.

pub mod Seen
pub mod Going
pub mod Lasting
pub mod Enabling
pub mod Staging
pub mod Ordering
pub mod Looking
pub mod Announcing
pub mod Owning
pub mod Sharing
pub mod Tracking
pub mod Keeping
pub mod Answering
pub mod Skipping
