-- What holds of these, for those who prove over seats.
pub mod Notes
pub mod Publications
pub mod Tracked
