-- What a hub keeps, and what it is made of.
use Rattle.std.specs.Prelude.{◌≡◌, ◌<◌, ◌+◌, ◌^◌, ℕ, [], List, Some, None, IfSome, length, replicate, slice_get, Vec}
use Rattle.std.specs.Global.{Global}
use Rattle.atomic_table.specs.Seated.{TableId}
use Rattle.logbook.specs.Pages.{Book}
use Rattle.dt_chain.specs.Limits.{seat_count}
use Rattle.dt_chain.specs.Seats.{life_at}
use Rattle.dt_cred.specs.Rights.{HasDtrace}
use Rattle.dt_cred.specs.declared.account.Account.{Account}
use Rattle.dt_hub.specs.Processors.{Processing}
use Rattle.dt_machine.specs.Registry.{Contents, Registry, account_of}
use Rattle.dt_seat.specs.Keeps.{Followed, followed_at}
use Rattle.dt_seat.specs.Sessions.{Sat}
use Rattle.dt_seat.specs.declared.held.Held.TheVariants.{Gone}

-- which hub it will be: its machine, its chains and the word of its facts
pub record HubNames : Type 0 where
  pub contents : Contents
  pub book : Book
  pub word : TableId

-- a processor that has fired nothing and knows nothing: no firing of its came to anything, at any seat
pub record IsFresh (cpu : ℕ) (p : Processing) : Type 0 where
  pub cpu_is : p.cpu ≡ cpu
  pub place : p.place ≡ 0
  pub seen : p.seen ≡ []
  pub told : p.told ≡ []
  pub seats : (seat : ℕ) → IfSome (slice_get p.at_seats seat) (λ f. f ≡ followed_at seat cpu)
  pub log : p.log ≡ []
  pub mask : (seat : ℕ) → life_at p.mask seat ≡ None
  pub held : p.held ≡ replicate seat_count Gone

-- What a processor has at the first so many seats, where it knows nothing.
pub record IsHand (seats cpu : ℕ) (hand : List Followed) : Type 0 where
  pub many : length hand ≡ seats
  pub each : (seat : ℕ) → IfSome (slice_get hand seat) (λ f. f ≡ followed_at seat cpu)

-- what each of so many processors has at them
pub record AreDealt (cpus seats : ℕ) (hands : List (Vec Followed Global)) : Type 0 where
  pub cpus_are : length hands ≡ cpus
  pub each : (cpu : ℕ) → IfSome (slice_get hands cpu) (λ hand. IsHand seats cpu hand.items)

-- The machine has an account of this name, which has a dtrace privilege.
abbrev pub MayOpen : Registry → List ℕ → Account → Type 0
MayOpen registry name account = (account_of registry name ≡ Some account) × HasDtrace account.privs

-- A session that was just opened: it is on one of the seats, which has a number left for a later one, its trail is of its account, and it knows of no publication.
pub record IsNew (session : Sat) : Type 0 where
  pub seat : session.seat < seat_count
  pub life : session.life + 1 < 2 ^ 64
  pub account : session.row.account ≡ session.account
  pub published : session.published ≡ []
