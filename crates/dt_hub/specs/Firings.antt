-- What a look and a firing come to.
use Rattle.std.specs.Prelude.{◌≡◌, ◌<◌, ◌+◌, ◌++◌, ◌∷◌, ◌⊎◌, ℕ, [], List, Option, Some, None, IfSome, MatchOption, length, slice_get}
use mathlib.Core.List.{IsPrefix}
use Rattle.dt_chain.specs.Chains.{IsMaskAfter}
use Rattle.dt_chain.specs.Seats.{life_at}
use Rattle.dt_chain.specs.Writes.{Write}
use Rattle.dt_chain.specs.declared.seat_mask.SeatMask.{SeatMask}
use Rattle.dt_cred.specs.declared.firing.Firing.{Firing}
use Rattle.dt_facts.specs.declared.fact.Knew.{Knew}
use Rattle.dt_hub.specs.Processors.{Processing, count_in, knew_at_seats}
use Rattle.dt_hub.specs.declared.firing.Fired.{Fired}
use Rattle.dt_hub.specs.declared.firing.Fired.TheVariants as fired
use Rattle.dt_hub.specs.declared.looking.Looked.{Looked}
use Rattle.dt_hub.specs.declared.looking.Looked.TheVariants as looked
use Rattle.dt_machine.specs.Registry.{Contents, firing_at}
use Rattle.dt_seat.specs.Keeps.{Followed, known_of, noted_of, over_of}
use Rattle.dt_seat.specs.Seats.{ComesOfFiring, KnowsPublication, kept_items}
use Rattle.dt_seat.specs.declared.held.Held.{Held}
use Rattle.dt_trail.specs.Items.{own}

-- A seat that a mask names with a life is offered the firing, and this comes of it. The processor's own firings in what its note knows of the life are those that it knew,
-- and this one, if it was kept.
pub record IsOffered (contents : Contents) (firing : Firing) (life : ℕ) (held : Option Held) (old new : Option Followed) : Type 0 where
  pub answer : Held
  pub before : Followed
  pub after : Followed
  pub held_is : held ≡ Some answer
  pub old_is : old ≡ Some before
  pub new_is : new ≡ Some after
  pub comes : ComesOfFiring contents life firing answer before after
  pub own_firings : own (firing.cpu + 1) (noted_of life after) ≡ own (firing.cpu + 1) (noted_of life before) ++ kept_items answer firing

-- What becomes of what a processor has at a seat: where the mask names it, it is offered the firing, and elsewhere nothing changes.
abbrev pub ComesToSeat : Contents → Firing → SeatMask → List Held → (old new : List Followed) → ℕ → Type 0
ComesToSeat contents firing mask held old new seat = MatchOption (life_at mask seat)
    (slice_get new seat ≡ slice_get old seat)
    (λ life. IsOffered contents firing life (slice_get held seat) (slice_get old seat) (slice_get new seat))

-- Where the mask names a seat, a processor that has the note of the life named knows of its publication, once the trail that it knows has the accepted `go`.
abbrev pub KnowsPublicationAt : Contents → SeatMask → List Followed → (told : List Write) → ℕ → Type 0
KnowsPublicationAt contents mask at_seats told seat =
    IfSome (life_at mask seat) (λ life. IfSome (slice_get at_seats seat) (λ f. KnowsPublication contents life f told))

-- A processor looks after all writes that it saw before and was told of, and finds the seats that these writes name for its next firing, which is its own. It knows of these
-- writes then.
pub record LooksAfter (contents : Contents) (old new : Processing) (place : ℕ) (firing : Firing) (mask : SeatMask) : Type 0 where
  pub place_is : place ≡ old.place
  pub firing_is : firing_at contents.scripts old.cpu old.place ≡ Some firing
  pub of_processor : (firing.cpu ≡ old.cpu) × (firing.place ≡ place)
  pub seen : IsPrefix old.seen new.seen
  pub told : IsPrefix old.told new.seen
  pub knows : IsPrefix new.seen new.told
  pub mask_is : IsMaskAfter contents.registry new.seen firing mask

-- What a place of a log says of a seat counts what is known there: of each life that isn't over, how many of its items.
abbrev pub Counts : Option Knew → Followed → Type 0
Counts noted f = (life : ℕ) → (life < over_of f) ⊎ (count_in life noted ≡ length (known_of life f))

-- A processor makes the next firing of its script: it looks, it offers the firing to the seats that are named and to no others, and its log then has what
-- it knew of each seat's life before, which counts all that it knew.
pub record HasFired (contents : Contents) (old new : Processing) (place : ℕ) : Type 0 where
  pub firing : Firing
  pub looks : LooksAfter contents old new place firing new.mask
  pub cpu : new.cpu ≡ old.cpu
  pub next : new.place ≡ old.place + 1
  pub log : new.log ≡ old.log ++ knew_at_seats old.at_seats ∷ []
  pub each : (seat : ℕ) → ComesToSeat contents firing new.mask new.held old.at_seats new.at_seats seat
  pub published : (seat : ℕ) → KnowsPublicationAt contents new.mask new.at_seats new.told seat
  pub counts : (seat : ℕ) → IfSome (slice_get old.at_seats seat) (Counts (slice_get (knew_at_seats old.at_seats) seat))

-- What a processor knows, and the place that it fires next, are the same.
pub record KnowsTheSame (old new : Processing) : Type 0 where
  pub cpu : new.cpu ≡ old.cpu
  pub place : new.place ≡ old.place
  pub seen : new.seen ≡ old.seen
  pub told : new.told ≡ old.told
  pub seats : new.at_seats ≡ old.at_seats
  pub log : new.log ≡ old.log

-- What comes of a processor's call to fire. End: its script has no more. Refused: nothing that it knows changes, and nobody was offered anything.
abbrev pub ComesOfCall : Contents → Fired → (old new : Processing) → Type 0
ComesOfCall contents fired.End old new = (new ≡ old) × (firing_at contents.scripts old.cpu old.place ≡ None)
ComesOfCall contents fired.Refused old new =
    KnowsTheSame old new × ((seat : ℕ) → life_at new.mask seat ≡ None)
ComesOfCall contents (fired.At place) old new = HasFired contents old new place

-- What comes of a look: nothing is taken from the script, and what is known at seats stays. Of the writes just those are known that were looked at.
abbrev pub ComesOfLook : Contents → Looked → (old new : Processing) → Type 0
ComesOfLook contents looked.End old new = (new ≡ old) × (firing_at contents.scripts old.cpu old.place ≡ None)
ComesOfLook contents looked.Refused old new = new ≡ old
ComesOfLook contents (looked.At place mask) old new =
    (firing : Firing) × LooksAfter contents old new place firing mask
    × (new ≡ record old { seen = new.seen; told = new.seen })
