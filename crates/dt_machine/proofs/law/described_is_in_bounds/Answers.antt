-- What the proof of `described_is_in_bounds` is told at its goals.
use Rattle.dt_machine.specs.laws.Bounds.{described_in_bounds}
use Rattle.dt_machine.proofs.law.described_is_in_bounds.Goals as goal

pub returns : goal.returns
returns c = described_in_bounds
