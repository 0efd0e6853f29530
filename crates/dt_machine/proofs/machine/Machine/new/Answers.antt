-- What the proof of `Machine::new` is told at its goals.
use Rattle.dt_machine.proofs.machine.Machine.new.Goals as goal

pub invariant_of-result : goal.invariant_of-result
invariant_of-result c = record { sound = c.requires.sound; ready = c.requires.ready }
