-- What holds of the definitions, for those who prove that a program meets them. Lowest first.
pub mod BoundsLaws
pub mod Descriptions
pub mod SomeDescription
