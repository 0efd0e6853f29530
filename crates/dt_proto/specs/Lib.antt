-- Lines, commands and replies as JSON; sessions; trails and their legality.

-- What is promised.
pub mod Limits
pub mod Lines
pub mod Splits
pub mod HasRead
pub mod Asked
pub mod Line
pub mod Scalars
pub mod Rows
pub mod Reply
pub mod Alone
pub mod Session
pub mod Trail
pub mod Views
pub mod Legal
pub mod Told
pub mod Brought
-- The laws of these.
pub mod laws
