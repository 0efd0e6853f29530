-- What holds of rows, for those who prove that a program keeps them legal. Lowest first.

pub mod Starts
pub mod Beginning
pub mod Following
pub mod Counting
pub mod Room
