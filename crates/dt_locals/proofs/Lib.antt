pub mod Hashing
pub mod Writing
pub mod Closing
pub mod Pasts
