-- What lies under the lock of a seat may go from thread to thread.
use denote.RattleType.{RattleType}
use denote.Param.Send.{IsSend, struct_send, recorded_send, sendable}
use denote.Struct.Declared.{shape}
use Rattle.std.proofs.Crossing as std
use Rattle.dt_cred.proofs.account.Account.TheSendSync as account
use Rattle.dt_chain.specs.declared.book.Site as site
use Rattle.dt_chain.proofs.front.Front.TheSendSync as front
use Rattle.dt_chain.proofs.seat.Seat.TheSendSync as seat
use Rattle.dt_hub.specs.laws.CrossingConsumers.{consumer_field}
use Rattle.dt_facts.proofs.handles.Book.TheSendSync as book
use Rattle.dt_facts.proofs.handles.Share.TheSendSync as share
use Rattle.dt_legal.specs.declared.law.Traced as traced
use Rattle.dt_trail.proofs.owner.TrailOwner.TheSendSync as trail_owner
use Rattle.dt_seat.specs.declared.site.HubSite as hub_site
use Rattle.dt_seat.specs.contracts.present.Present as present
use Rattle.dt_seat.specs.contracts.locked.LockedSeat as locked
use Rattle.dt_seat.specs.contracts.locked.LockedSeat.TheInside as inside
use Rattle.dt_seat.proofs.idle.Idle.TheSendSync as idle
use Rattle.dt_seat.proofs.keep.Keep.TheSendSync as keep

-- the consumer and its trail, and what its session published
present_field : (J : RattleType) (s : site.Ghosts J.Denot) (t : traced.Ghosts J.Denot) → IsSend (present.the_field J s t).row
present_field J s t = struct_send (shape (present.the_type J s t)) (
  search (trail_owner.the_send, account.the_send, std.crosses, sendable) depth 60,
  (consumer_field, (search (front.the_send, std.crosses, sendable), (account.the_field_send, (search sendable, tt)))),
)

present_send : (J : RattleType) (s : site.Ghosts J.Denot) (t : traced.Ghosts J.Denot) → IsSend (present.the_row J s t)
present_send J s t = recorded_send (present.the_field J s t).row _ _ (present.the_type J s t).to_one (present_field J s t)

inside_send : (J : RattleType) (h : hub_site.Ghosts J.Denot) (s : site.Ghosts J.Denot) (t : traced.Ghosts J.Denot) → IsSend (inside.the_row J h s t)
inside_send J h s t = recorded_send (inside.the_field J h s t).row _ _ (inside.the_type J h s t).to_one (struct_send (shape (inside.the_type J h s t)) (
  search (present_send, sendable),
  (
    search (seat.the_send, sendable),
    (
      search sendable,
      (
        search (keep.the_send, std.crosses, sendable),
        (search (book.the_send, sendable), (search (idle.the_send, sendable), (search (share.the_send, sendable), tt))),
      ),
    ),
  ),
))

pub locked_send : (J : RattleType) (h : hub_site.Ghosts J.Denot) (s : site.Ghosts J.Denot) (t : traced.Ghosts J.Denot) → IsSend (locked.the_row J h s t)
locked_send J h s t = search (inside_send, sendable)
