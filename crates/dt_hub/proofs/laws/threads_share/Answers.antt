-- What is to be shown of `threads_share`.
use denote.Param.Send.{sendable}
use Rattle.dt_hub.specs.laws.Crossing.{hub_sync}
use Rattle.dt_hub.proofs.laws.threads_share.Goals as goal

pub takes_shared-requires-sync-T : goal.takes_shared-requires-sync-T
takes_shared-requires-sync-T c κs = search (hub_sync, sendable)
