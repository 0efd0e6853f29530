-- What a processor has: its place in its script, the writes that it saw and was told of, what it has at each seat, its log, and what came
-- of its last firing.
use Rattle.std.specs.Prelude.{◌≡◌, ◌<◌, ◌==◌, ℕ, List, Option, Some, None, IfSome, [], length, map, slice_get, if◌then◌else◌}
use Rattle.atomic_table.specs.Seated.{TableId}
use Rattle.dt_chain.specs.Chains.{Watched}
use Rattle.dt_chain.specs.Seats.{life_at}
use Rattle.dt_chain.specs.Writes.{Write}
use Rattle.dt_chain.specs.Limits.{seat_count}
use Rattle.dt_chain.specs.declared.seat_mask.SeatMask.{SeatMask}
use Rattle.dt_facts.specs.Facts.{knew, log_fact}
use Rattle.dt_facts.specs.Handles.{HeldFact, holding}
use Rattle.dt_facts.specs.declared.fact.Fact.{Fact}
use Rattle.dt_facts.specs.declared.fact.Fact.TheVariants as kinds
use Rattle.dt_facts.specs.declared.fact.Knew.{Knew}
use Rattle.dt_hub.specs.Names.{log_name}
use Rattle.dt_hub.specs.declared.offered.Offered.{Offered}
use Rattle.dt_hub.specs.declared.offered.Offered.TheVariants as offered
use Rattle.dt_legal.specs.Rows.{AreBelowPlace}
use Rattle.dt_machine.specs.Registry.{Contents}
use Rattle.dt_seat.specs.Keeps.{Followed, known_by, known_of}
use Rattle.dt_seat.specs.Tracked.{AreTracked, known_life}
use Rattle.dt_seat.specs.declared.held.Held.{Held}
use Rattle.dt_seat.specs.declared.held.Held.TheVariants as helds

-- what contracts see of a processor's token
pub record Processing : Type 0 where
  pub cpu : ℕ
  pub place : ℕ
  pub seen : List Write
  pub told : List Write
  pub at_seats : List Followed
  pub log : List (List Knew)
  pub mask : SeatMask
  pub held : List Held

-- the places that a log has
abbrev pub places_in : Fact → List (List Knew)
places_in (kinds.Log log) = log.places
places_in fact = []

-- which life of a seat a processor knows of last, and how many of its items
abbrev pub knew_of : Followed → Knew
knew_of f = knew (known_life f) (length (known_of (known_life f) f))

-- the place of a log that is being fired: what is known at each seat
abbrev pub knew_at_seats : List Followed → List Knew
knew_at_seats at_seats = map knew_of at_seats

-- how many items of a life of a seat were known at a place
abbrev pub count_in : ℕ → Option Knew → ℕ
count_in life None = 0
count_in life (Some one) = if one.life == life then one.items else 0

-- how many items of a life of a seat a processor knew at each place that it fired, by its log
abbrev pub counts_at : (seat : ℕ) → List (List Knew) → (life : ℕ) → List ℕ
counts_at seat log life = map (λ place. count_in life (slice_get place seat)) log

-- What a processor has at a seat: it is that seat's and this processor's, and all its own firings that it knows of stand below this place.
pub record IsAtSeat (cpu place seat : ℕ) (f : Followed) : Type 0 where
  pub seat_is : f.seat ≡ seat
  pub cpu_is : f.cpu ≡ cpu
  pub below : AreBelowPlace cpu place (known_by f.note)

-- what a processor has at all seats
pub record AreAtSeats (cpu place : ℕ) (at_seats : List Followed) : Type 0 where
  pub many : length at_seats ≡ seat_count
  pub each : (seat : ℕ) → IfSome (slice_get at_seats seat) (IsAtSeat cpu place seat)

-- A processor that knows of these writes keeps track of the lives of each seat, by its log.
abbrev pub AreTrackedBy : Contents → List Write → List (List Knew) → List Followed → Type 0
AreTrackedBy contents writes log at_seats = (seat : ℕ) → IfSome (slice_get at_seats seat) (AreTracked contents writes (counts_at seat log))

-- what a processor's token keeps
pub record IsProcessor (word : TableId) (contents : Contents) (cpu place : ℕ) (told : List Write) (at_seats : List Followed) (held : List Held)
    (log : HeldFact) : Type 0 where
  pub there : cpu < contents.registry.cpus
  pub seats : AreAtSeats cpu place at_seats
  pub many : length held ≡ seat_count
  pub log_is : log ≡ holding word (log_name contents.registry.cpus cpu) (log_fact (places_in log.fact))
  pub places : length (places_in log.fact) ≡ place
  pub tracked : AreTrackedBy contents told (places_in log.fact) at_seats

abbrev pub processing : (cpu place : ℕ) → Watched → List Followed → HeldFact → SeatMask → List Held → Processing
processing cpu place reader at_seats log mask held = record {
  cpu = cpu;
  place = place;
  seen = reader.seen;
  told = reader.told;
  at_seats = at_seats;
  log = places_in log.fact;
  mask = mask;
  held = held;
}

-- what a hold came to, as the firing's answer
abbrev pub offered_as : Held → Offered
offered_as helds.Kept = offered.Kept
offered_as (helds.Unseen known) = offered.Unseen known
offered_as helds.Gone = offered.Gone

-- what came of the last firing at a seat
abbrev pub offered_of : Option ℕ → Option Held → Offered
offered_of None held = offered.NotNamed
offered_of (Some life) None = offered.NotNamed
offered_of (Some life) (Some held) = offered_as held

abbrev pub offered_at : Processing → ℕ → Offered
offered_at p seat = offered_of (life_at p.mask seat) (slice_get p.held seat)
