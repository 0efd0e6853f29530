-- What is to be shown of `staged`: threads may share the hub that was made.
use denote.Param.Send.{sendable}
use Rattle.dt_hub.specs.laws.Crossing.{hub_sync}
use Rattle.dt_bench_hub.proofs.staged.Goals as goal

pub done-text-requires-sync-H : goal.done-text-requires-sync-H
done-text-requires-sync-H g c κs = search (hub_sync, sendable)
