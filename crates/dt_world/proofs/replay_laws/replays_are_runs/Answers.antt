-- What is to be shown of `replays_are_runs`.
use Rattle.dt_world.proofs.OneOutput.{is_run}
use Rattle.dt_world.proofs.replay_laws.replays_are_runs.Goals as goal

pub returns : goal.returns
returns c = is_run
