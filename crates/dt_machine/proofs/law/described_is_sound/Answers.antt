-- What the proof of `described_is_sound` is told at its goals.
use Rattle.dt_machine.specs.laws.Soundness.{described_sound}
use Rattle.dt_machine.proofs.law.described_is_sound.Goals as goal

pub returns : goal.returns
returns c = described_sound
