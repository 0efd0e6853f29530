-- What holds of the definitions, for those who prove that a program meets them. Lowest first.
pub mod Tests
pub mod Words
pub mod Flags
pub mod Accounts
pub mod Named
pub mod Scripts
pub mod Spelling
pub mod Soundness
pub mod Numbers
pub mod Bounds
