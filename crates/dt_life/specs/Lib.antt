-- What reaches a consumer, what that makes of it, and what it is answered.

-- What is promised.
pub mod Limits
pub mod Options
pub mod Refusal
pub mod Ask
pub mod Phase
pub mod Takings
pub mod TracingSteps
pub mod Aggregations
pub mod Life
pub mod Acceptance
pub mod Ending
pub mod Buffers
pub mod Stores
pub mod Variables
pub mod Answer
pub mod Reply
pub mod Sees
pub mod Tests
pub mod Forms
pub mod Placed
pub mod Uses
pub mod Following
pub mod Scenes
-- The laws of these.
pub mod laws
