-- What the seats have written, and what is published of each by it.
use Rattle.std.specs.Prelude.{◌≡◌, ℕ, Bool, List, [], ◌∷◌, Option, Some, None, ◌==◌, find, filter, if◌then◌else◌}
use Rattle.dt_cred.specs.declared.account.Account.{Account}

-- A seat publishes, for a life of its own, on whose behalf it traces and in which probes it is interested, as the
-- flags of an `Interest`. Or it withdraws its publication.
pub data Write : Type 0 where
  published : (seat life : ℕ) → (account : Account) → (probes : List Bool) → Write
  withdrawn : (seat : ℕ) → Write

-- what is published of a seat
pub record Published : Type 0 where
  pub life : ℕ
  pub account : Account
  pub probes : List Bool

-- A history of writes is a list, the newest first. What is published of a seat is its last write, if that is a
-- publication.
abbrev pub published_on : List Write → ℕ → Option Published
published_on [] seat = None
published_on (published at life account probes ∷ earlier) seat =
    if at == seat then Some (record { life = life; account = account; probes = probes }) else published_on earlier seat
published_on (withdrawn at ∷ earlier) seat = if at == seat then None else published_on earlier seat

-- whose write it is
abbrev pub seat_of : Write → ℕ
seat_of (published seat life account probes) = seat
seat_of (withdrawn seat) = seat

-- what a write leaves published of its seat
abbrev pub published_by : Write → Option Published
published_by (published seat life account probes) = Some (record { life = life; account = account; probes = probes })
published_by (withdrawn seat) = None

-- the writes of one seat
abbrev pub writes_of : List Write → ℕ → List Write
writes_of writes seat = filter (λ write. seat_of write == seat) writes

-- the last write of a seat, if it made one: the newest is the first in the list
abbrev pub last_write_of : List Write → ℕ → Option Write
last_write_of writes seat = find (λ write. seat_of write == seat) writes

-- In both histories each seat has the same last write.
pub record SameLastWrites (writes others : List Write) : Type 0 where
  pub each : (seat : ℕ) → last_write_of writes seat ≡ last_write_of others seat
