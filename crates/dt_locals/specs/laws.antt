-- What holds of the definitions, for those who prove that a program meets them. Lowest first.
pub mod Same
pub mod Choices
pub mod Assigning
pub mod After
