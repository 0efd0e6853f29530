-- What holds of the definitions, for those who prove that a program meets them. Lowest first.
pub mod Interest
pub mod Accounts
pub mod Enabled
