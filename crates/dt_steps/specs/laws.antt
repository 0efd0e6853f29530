-- What holds of every world, for those who prove that a program meets its definition.

pub mod Unseen
