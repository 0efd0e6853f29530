-- What is to be shown of `staged`: threads may share the hub that was made.
use denote.Param.Send.{sendable}
use Rattle.dt_hub.specs.laws.Crossing.{hub_sync}
use Rattle.dt_tests_crowd.proofs.scenes.staged.Goals as goal

pub played-result-requires-sync-H : goal.played-result-requires-sync-H
played-result-requires-sync-H g c κs = search (hub_sync, sendable)
