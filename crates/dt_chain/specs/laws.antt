-- What holds of the definitions, for those who prove that a program meets them. Lowest first.

pub mod Tests
pub mod Publishing
pub mod LastWrites
