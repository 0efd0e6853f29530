-- What the thread of a socket captures may go there.
use denote.Builtin.{unit}
use denote.Exit.{no}
use denote.Param.{param}
use denote.Param.Send.{IsSync, sendable, shr_send}
use denote.RattleType.{RattleType}
use denote.Ref.{NamedLft, ShrRef}
use mathlib.Core.List.{[], ◌∷◌}
use Rattle.dt_hub.specs.contracts.hub.Hub as hub
use Rattle.dt_hub.specs.laws.Crossing.{captured_send, hub_sync}
use Rattle.std.proofs.Crossing as std
use Rattle.std.proofs.thread.Scope.TheSendSync as scope_crossing
use Rattle.std.specs.contracts.alloc.Global as global
use Rattle.std.specs.contracts.thread.Scope as scope
use Rattle.dt_server.proofs.serving.start_listener.Goals as goal
use Rattle.dt_server.proofs.shared.AccountSocket.TheSendSync as socket_crossing
use Rattle.dt_server.proofs.shared.Shared.TheSendSync as shared_crossing
use Rattle.dt_server.specs.contracts.shared.AccountSocket as socket
use Rattle.dt_server.specs.contracts.shared.Shared as shared

pub spawn-requires-send-F : goal.spawn-requires-send-F
spawn-requires-send-F g c κs within =
    let J = param 0 g.row.J in
    let rt_sync : IsSync (param 1 g.row.R) = search (c.type_bounds.sync-R, sendable) in
    let shared_sync : IsSync shared.the_row = search (shared_crossing.the_sync, sendable) in
    let socket_sync : IsSync socket.the_row = search (socket_crossing.the_sync, sendable) in
    let scope_sync : (ℓ : NamedLft) (E : RattleType) → IsSync (scope.the_row ℓ E) = λ ℓ E. search (scope_crossing.the_sync, sendable) in
    captured_send 1 _ no _
    (ShrRef _ _ (param 1 g.row.R) ∷ global.the_row ∷ ShrRef _ _ (hub.the_row J g.J.HubSite g.J.Site g.J.Traced) ∷ ShrRef _ _ shared.the_row ∷ ShrRef _ _ socket.the_row ∷ ShrRef _ _ (scope.the_row _ (ShrRef _ _ unit)) ∷ [])
    (shr_send _ _ _ rt_sync, (std.send, (shr_send _ _ _ (hub_sync J g.J.HubSite g.J.Site g.J.Traced), (shr_send _ _ _ shared_sync, (shr_send _ _ _ socket_sync, (shr_send _ _ _ (scope_sync _ _), tt))))))
