-- What holds of the definitions, for those who prove that a program meets them. Lowest first.

pub mod Parts
pub mod Splitting
pub mod Taken
pub mod TrailItems
pub mod Views
pub mod Accounts
pub mod OneLine
pub mod Trails
pub mod FirstReplies
pub mod Spelling
pub mod Legal
pub mod Brought
pub mod OnMachine
