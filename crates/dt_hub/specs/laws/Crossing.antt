-- Threads may share a hub, and a closure may go to a thread where all may that it captures.
use denote.RattleType.{RattleType}
use denote.Exit.{Kept}
use denote.Param.{arg, param}
use denote.Param.Send.{AllSend, IsSend, IsSync, arg_send, param_send, recorded_send, recorded_sync, sendable, struct_send, struct_sync}
use denote.Struct.Declared.{shape}
use denote.Struct.Struct.{Struct}
use denote.Struct.Tuple.{TupleAt, type_at}
use mathlib.Core.List.{List}
use mir.Syntax.{Ty}
use Prim.Native.Nat.{ℕ}
use Rattle.std.proofs.Crossing as std
use Rattle.crossbeam_utils.proofs.cache_padded.CachePadded.TheSendSync as padded
use Rattle.dt_chain.specs.declared.book.Site as site
use Rattle.dt_seat.proofs.hub_publisher.HubPublisher.TheSendSync as writer
use Rattle.dt_facts.proofs.word.Facts.TheSendSync as facts
use Rattle.dt_legal.specs.declared.law.Traced as traced
use Rattle.dt_machine.proofs.machine.Machine.TheSendSync as machine
use Rattle.dt_seat.specs.declared.site.HubSite as hub_site
use Rattle.dt_hub.specs.laws.CrossingSeats.{locked_send}
use Rattle.dt_hub.specs.contracts.hub.Hub as hub
use Rattle.dt_hub.specs.contracts.hub.Hub.TheInside as inside

inside_sync : (J : RattleType) (h : hub_site.Ghosts J.Denot) (s : site.Ghosts J.Denot) (t : traced.Ghosts J.Denot) → IsSync (inside.the_row J h s t)
inside_sync J h s t = recorded_sync (inside.the_field J h s t).row _ _ (inside.the_type J h s t).to_one (struct_sync (shape (inside.the_type J h s t))
    (search (machine.the_sync, sendable), (search (facts.the_sync, sendable), (search (writer.the_send, std.crosses, sendable), (search (locked_send, padded.the_sync, std.crosses, sendable), (search (padded.the_field_sync, std.crosses, sendable), tt))))))

pub hub_sync : (J : RattleType) (h : hub_site.Ghosts J.Denot) (s : site.Ghosts J.Denot) (t : traced.Ghosts J.Denot) → IsSync (hub.the_row J h s t)
hub_sync J h s t = search (inside_sync, sendable)

-- what a closure captures, one after the other, by the name of the closure's type
pub captured_send : (i : ℕ) (δ : Ty) (k : Kept) (name : List ℕ) (Ts : List RattleType) → AllSend (shape (type_at name Ts)).fields
    → IsSend (param i (arg δ k (TupleAt name Ts)))
captured_send i δ k name Ts all = param_send i _ (arg_send δ k _
    (recorded_send (Struct (shape (type_at name Ts))) _ _ (type_at name Ts).to_one (struct_send (shape (type_at name Ts)) all)))
