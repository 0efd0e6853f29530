-- What holds of every world, by its steps alone: what is published of a session that traces is its own interest. So a
-- session that a look doesn't name doesn't see the firing. And what is published under a session's number has its account.
-- So a session that a look names is shown the firing.
use Rattle.std.specs.Prelude.{◌≡◌, ℕ, ◌<◌, ◌≤◌, true, List, Option, Some, None, length, MatchOption, IfSome, IsSomeAnd}
use Rattle.dt_cred.specs.declared.account.Account.{Account}
use Rattle.dt_machine.specs.Registry.{Registry}
use Rattle.dt_machine.specs.Shown.{IsShown}
use Rattle.dt_chain.specs.Writes.{Published, published_on}
use Rattle.dt_chain.specs.Limits.{seat_count}
use Rattle.dt_life.specs.Acceptance.{IsAcceptedGo}
use Rattle.dt_life.specs.Life.{Item, phase, ecbs, is_active}
use Rattle.dt_proto.specs.Line.{ask_in}
use Rattle.dt_proto.specs.Lines.{LineForm}
use Rattle.dt_ecb.specs.Interest.{interest_of}
use Rattle.dt_steps.specs.World.{World, Place, Pending, DueOffer, life_in, account_numbered}

-- A publication is of one of the seat's sessions: it has that one's number and account.
abbrev pub IsOfSession : Place → Published → Type 0
IsOfSession place publication = account_numbered place publication.life ≡ Some publication.account

module _ (registry : Registry) where
  -- An offer is due to one of the seat's sessions, whose account is shown the firing.
  abbrev pub IsDueToShown : Place → DueOffer → Type 0
  IsDueToShown place due = IsSomeAnd (account_numbered place due.life) (λ account. IsShown account registry due.firing)

  -- what a session of this number and this life publishes
  abbrev pub publication_of : Account → List Item → (n : ℕ) → Published
  publication_of account life n = record { life = n; account = account; probes = interest_of (ecbs account registry life) }

  -- A session is sound: its pending `go` is an accepted one, and its publication is its own where it traces, and
  -- where its pending `go` is published.
  pub record IsSoundSession (account : Account) (life : List Item) (go : Option Pending) (n : ℕ) (publication : Option Published)
      : Type 0 where
    pub accepted : (pending : Pending) → go ≡ Some pending → IsAcceptedGo account registry life (ask_in pending.line)
    pub traces : is_active (phase account registry life) ≡ true → publication ≡ Some (publication_of account life n)
    pub published : (line : LineForm) → go ≡ Some (record { line = line; published = true })
        → publication ≡ Some (publication_of account life n)

  -- A seat is sound: its session is. What is no seat has neither a session nor a publication.
  abbrev pub IsSoundSeat : (seat : ℕ) → Option Published → Place → Type 0
  IsSoundSeat seat publication place = MatchOption place.present (seat_count ≤ seat → publication ≡ None)
      (λ session. (seat < seat_count)
      × IsSoundSession session.account (life_in registry session) session.go (length place.earlier) publication)

  pub record IsSoundWorld (world : World) : Type 0 where
    pub seats : (seat : ℕ) → IsSoundSeat seat (published_on world.writes seat) (world.places seat)
    pub publications : (seat : ℕ) → IfSome (published_on world.writes seat) (IsOfSession (world.places seat))
    pub due : (cpu seat : ℕ) → seat_count ≤ seat → world.due cpu seat ≡ None
    pub shown : (cpu seat : ℕ) → IfSome (world.due cpu seat) (IsDueToShown (world.places seat))
