-- What the program's words mean, what a replay writes, and with which status the program ends.

-- What is promised.
pub mod Seat
pub mod Writing
pub mod Status
pub mod Words
pub mod Commands
