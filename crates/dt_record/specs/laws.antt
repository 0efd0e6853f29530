-- What holds of the definitions, for those who prove that a program meets them. Lowest first.
pub mod Performing
pub mod BareTakings
pub mod BareRecords
pub mod Traced
pub mod BareValues
pub mod Numbers
pub mod Bounds
pub mod Fitting
pub mod Lengths
pub mod Within
