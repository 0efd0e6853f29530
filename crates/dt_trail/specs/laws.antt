-- What holds of beginnings, for those who prove over trails.
pub mod Starts
