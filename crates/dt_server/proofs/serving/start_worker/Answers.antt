-- What a processor's thread captures may go there.
use denote.Exit.{no}
use denote.Param.{param}
use denote.Param.Send.{IsSend, IsSync, sendable, shr_send}
use denote.Ref.{ShrRef}
use mathlib.Core.List.{[], ◌∷◌}
use Rattle.dt_hub.proofs.cpu_seat.CpuSeat.TheSendSync as cpu_seat_crossing
use Rattle.dt_hub.specs.contracts.cpu_seat.CpuSeat as cpu_seat
use Rattle.dt_hub.specs.contracts.hub.Hub as hub
use Rattle.dt_hub.specs.laws.Crossing.{captured_send, hub_sync}
use Rattle.dt_server.proofs.desk.Desk.TheSendSync as desk_crossing
use Rattle.dt_server.proofs.serving.start_worker.Goals as goal
use Rattle.dt_server.specs.contracts.desk.Desk as desk

pub spawn-requires-send-F : goal.spawn-requires-send-F
spawn-requires-send-F g c κs within =
    let J = param 0 g.row.J in
    let processor = cpu_seat.the_row J g.J.HubSite g.J.Site g.J.Traced in
    let processor_send : IsSend processor = search (cpu_seat_crossing.the_send, sendable) in
    let rt_sync : IsSync (param 1 g.row.R) = search (c.type_bounds.sync-R, sendable) in
    let gate_sync : IsSync (param 2 g.row.G) = search (c.type_bounds.sync-G, sendable) in
    let desk_sync : IsSync desk.the_row = search (desk_crossing.the_sync, sendable) in
    captured_send 1 _ no _
    (ShrRef _ _ (param 1 g.row.R) ∷ ShrRef _ _ (hub.the_row J g.J.HubSite g.J.Site g.J.Traced) ∷ processor ∷ ShrRef _ _ (param 2 g.row.G) ∷ ShrRef _ _ desk.the_row ∷ [])
    (shr_send _ _ _ rt_sync, (shr_send _ _ _ (hub_sync J g.J.HubSite g.J.Site g.J.Traced), (processor_send, (shr_send _ _ _ gate_sync, (shr_send _ _ _ desk_sync, tt)))))
