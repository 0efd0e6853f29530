-- Stores of aggregations: what one keeps of all that came to it, what it lends, and the table of several.

-- What is promised.
pub mod Limits
pub mod Keys
pub mod History
pub mod Held
pub mod Choice
pub mod Chosen
pub mod Table
pub mod TableOf
pub mod EntryNames
pub mod Fed
pub mod Indexed
pub mod IsAt
pub mod Lent
-- Private to the crate: no public contract names them.
pub mod Shares
pub mod Joining
