-- What holds of the definitions, for those who prove that a program meets them.
pub mod SameBounds
pub mod BoundsOf
pub mod Levels
