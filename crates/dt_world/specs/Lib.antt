-- The lines of a replay, and what it writes. The world of its steps is dt_steps', shown again.

-- What is promised.
pub use Rattle.dt_proto.specs.Views
pub use Rattle.dt_steps.specs.World
pub use Rattle.dt_steps.specs.Steps
pub use Rattle.dt_steps.specs.Ran
pub mod Limits
pub mod StepLine
pub mod Input
pub mod Replay
pub mod Told
pub mod Faults
pub mod Replaying
pub mod Orderly
-- Private to the crate: no public contract names them.
pub mod Words
pub mod Progress
-- The laws of these.
pub mod laws
