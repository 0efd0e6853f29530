-- What a connection's thread captures may go there.
use denote.Exit.{no}
use denote.Param.{param}
use denote.Param.Send.{IsSend, IsSync, sendable, shr_send}
use denote.Ref.{ShrRef}
use mathlib.Core.List.{[], ◌∷◌}
use Rattle.dt_hub.specs.contracts.hub.Hub as hub
use Rattle.dt_hub.specs.laws.Crossing.{captured_send, hub_sync}
use Rattle.std.proofs.Crossing as std
use Rattle.std.proofs.net.unix.UnixStream.TheSendSync as stream_crossing
use Rattle.std.specs.contracts.alloc.Global as global
use Rattle.std.specs.contracts.net.unix.UnixStream as stream
use Rattle.dt_server.proofs.listening.begin.Goals as goal
use Rattle.dt_server.proofs.shared.AccountSocket.TheSendSync as socket_crossing
use Rattle.dt_server.proofs.shared.Shared.TheSendSync as shared_crossing
use Rattle.dt_server.specs.contracts.shared.AccountSocket as socket
use Rattle.dt_server.specs.contracts.shared.Shared as shared

pub spawn_scoped-started-requires-send-F : goal.spawn_scoped-started-requires-send-F
spawn_scoped-started-requires-send-F g c κs within =
    let J = param 0 g.row.J in
    let rt_sync : IsSync (param 1 g.row.R) = search (c.type_bounds.sync-R, sendable) in
    let shared_sync : IsSync shared.the_row = search (shared_crossing.the_sync, sendable) in
    let socket_sync : IsSync socket.the_row = search (socket_crossing.the_sync, sendable) in
    let stream_send : IsSend stream.the_row = search (stream_crossing.the_send, sendable) in
    captured_send 1 _ no _
    (ShrRef _ _ (param 1 g.row.R) ∷ global.the_row ∷ ShrRef _ _ (hub.the_row J g.J.HubSite g.J.Site g.J.Traced) ∷ ShrRef _ _ shared.the_row ∷ ShrRef _ _ socket.the_row ∷ stream.the_row ∷ [])
    (shr_send _ _ _ rt_sync, (std.send, (shr_send _ _ _ (hub_sync J g.J.HubSite g.J.Site g.J.Traced), (shr_send _ _ _ shared_sync, (shr_send _ _ _ socket_sync, (stream_send, tt))))))
