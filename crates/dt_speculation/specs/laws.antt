-- What holds of the definitions, for those who prove that a program meets them. Lowest first.
pub mod Joins
pub mod Steps
pub mod Lives
pub mod Parts
pub mod Drops
pub mod Pieces
