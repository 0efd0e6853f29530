-- The world: what is on each seat, what is published, and which offers are left. No consumer is in it.
use Rattle.std.specs.Prelude.{ℕ, ◌==◌, ◌&&◌, Bool, false, not, List, [], ◌∷◌, Option, Some, None, is_none, is_some}
use Rattle.std.specs.Prelude.{length, if◌then◌else◌}
use Rattle.std.specs.List.{list_any}
use Rattle.std.specs.Option.{option_map, option_map_or}
use Rattle.dt_cred.specs.declared.account.Account.{Account}
use Rattle.dt_machine.specs.Registry.{Registry}
use Rattle.dt_cred.specs.declared.firing.Firing.{Firing}
use Rattle.dt_chain.specs.Writes.{Write}
use Rattle.dt_life.specs.Acceptance.{is_close}
use Rattle.dt_life.specs.Life.{Item, asked, fired, phase, is_active}
use Rattle.dt_life.specs.Tests.{is_accepted_go}
use Rattle.dt_proto.specs.Alone.{Reached, own_line}
use Rattle.dt_proto.specs.Line.{ask_in}
use Rattle.dt_proto.specs.Lines.{LineForm}
use Rattle.dt_proto.specs.Views.{life_of}

-- a `go` that was accepted and has not taken effect yet: its line, and whether the interest was published
pub record Pending : Type 0 where
  pub line : LineForm
  pub published : Bool

-- A session: on whose behalf, what reached it so far, the newest first, and its pending `go`. A line stands in its view
-- from its reply on, and a firing from its offer on, or from its look on, where the look didn't name the session.
pub record Session : Type 0 where
  pub account : Account
  pub view : List Reached
  pub go : Option Pending

-- what is on a seat: the session that goes on, and those that were closed, the newest first
pub record Place : Type 0 where
  pub present : Option Session
  pub earlier : List Session

-- an offer that is due to a seat: the life that was named, and the firing
pub record DueOffer : Type 0 where
  pub life : ℕ
  pub firing : Firing

-- what was asked and is answered: by which session, after which view, and the line
pub record Question : Type 0 where
  pub seat : ℕ
  pub number : ℕ
  pub account : Account
  pub view : List Reached
  pub line : LineForm

-- What is on each seat; what was published and withdrawn, the newest first; which offers each processor owes to which
-- seats; and so far the questions, and what the looks named, the oldest first.
pub record World : Type 0 where
  pub places : ℕ → Place
  pub writes : List Write
  pub due : (cpu seat : ℕ) → Option DueOffer
  pub questions : List Question
  pub looks : List (ℕ → Option ℕ)

abbrev pub new_world : World
new_world = record {
  places = λ seat. record { present = None; earlier = [] };
  writes = [];
  due = λ cpu seat. None;
  questions = [];
  looks = [];
}

-- A session is named by its seat and its number, which is that of the sessions on its seat before it. The number is
-- the life that is published of it.
abbrev pub number_on : World → (seat : ℕ) → ℕ
number_on world seat = length (world.places seat).earlier

abbrev pub session_numbered : List Session → ℕ → Option Session
session_numbered [] n = None
session_numbered (session ∷ earlier) n = if length earlier == n then Some session else session_numbered earlier n

abbrev pub sessions_on : Place → List Session
sessions_on place = option_map_or (λ session. session ∷ place.earlier) place.present place.earlier

-- the session of a seat and a number, if there was one
abbrev pub session_of : World → (seat n : ℕ) → Option Session
session_of world seat n = session_numbered (sessions_on (world.places seat)) n

-- the account of the session of a number on a seat, if there was one
abbrev pub account_numbered : Place → (n : ℕ) → Option Account
account_numbered place n = option_map (λ session. session.account) (session_numbered (sessions_on place) n)

abbrev pub new_session : Account → Session
new_session account = record { account = account; view = []; go = None }

-- a session after something more reached it
abbrev pub reached : Session → Reached → Session
reached session event = record session { view = event ∷ session.view }

-- a session after the reply to a line
abbrev pub answered : Session → LineForm → Session
answered session line = record { account = session.account; view = own_line line ∷ session.view; go = None }

-- a session with a pending `go`
abbrev pub waiting : Session → LineForm → (published : Bool) → Session
waiting session line published =
    record session { go = Some (record { line = line; published = published }) }

-- the item is a `close`, which is accepted wherever it is part of a life
abbrev pub is_closing : Item → Bool
is_closing (asked line) = is_close line
is_closing (fired firing) = false

-- a `go` of the session on a seat is pending
abbrev pub waits : Place → Bool
waits place = option_map_or (λ session. is_some session.go) place.present false

module _ (registry : Registry) where
  -- the life of a session
  abbrev pub life_in : Session → List Item
  life_in session = life_of session.account registry session.view

  abbrev pub is_tracing : Session → Bool
  is_tracing session = is_active (phase session.account registry (life_in session))

  -- a line may be asked: no `go` is pending, and no `close` was accepted
  unfoldable pub may_ask : Session → Bool
  may_ask session = is_none session.go && not (list_any is_closing (life_in session))

  -- the line is a `go` that is accepted
  unfoldable pub accepts_go : Session → LineForm → Bool
  accepts_go session line = is_accepted_go session.account registry (life_in session) (ask_in line)

  -- the publication may be withdrawn: the session is not active, and no `go` is pending
  unfoldable pub may_withdraw : Session → Bool
  may_withdraw session = is_none session.go && not (is_tracing session)

  -- a `close` of the session on a seat was accepted
  abbrev pub has_closed : Place → Bool
  has_closed place = option_map_or (λ session. list_any is_closing (life_in session)) place.present false
