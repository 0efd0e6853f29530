-- The steps of the world, and what each does. A step that isn't enabled does nothing.
use Rattle.std.specs.Prelude.{ℕ, ◌==◌, ◌&&◌, Bool, true, false, List, [], ◌∷◌, ◌++◌, Option, Some, None, is_none}
use Rattle.std.specs.Prelude.{length, fold, nat_lt, if◌then◌else◌}
use Rattle.std.specs.List.{list_all, range_with_len}
use Rattle.std.specs.Option.{option_map, option_map_or}
use Rattle.dt_machine.specs.Registry.{Registry}
use Rattle.dt_cred.specs.declared.firing.Firing.{Firing}
use Rattle.dt_chain.specs.Writes.{published, withdrawn}
use Rattle.dt_chain.specs.Limits.{seat_count}
use Rattle.dt_life.specs.Life.{ecbs}
use Rattle.dt_proto.specs.Alone.{firing_made}
use Rattle.dt_proto.specs.Asked.{form_asked}
use Rattle.dt_proto.specs.Lines.{LineForm}
use Rattle.dt_proto.specs.Session.{session_account}
use Rattle.dt_ecb.specs.Interest.{interest_of}
use Rattle.dt_chain.specs.Tests.{mask_of}
use Rattle.dt_steps.specs.World.{World, Session, Place, Pending, DueOffer, Question, new_world, number_on, life_in}
use Rattle.dt_steps.specs.World.{new_session, reached, answered, waiting, may_ask, accepts_go, may_withdraw}
use Rattle.dt_steps.specs.declared.step.Step.{Step}
use Rattle.dt_steps.specs.declared.step.Step.TheVariants.{Open, Ask, Publish, Finish, Withdraw, Look, Offer, Close}

-- a step without where its texts lie in memory
pub data StepForm : Type 0 where
  opens : (seat : ℕ) → (name : List ℕ) → StepForm
  asks : (seat : ℕ) → LineForm → StepForm
  publishes : (seat : ℕ) → StepForm
  finishes : (seat : ℕ) → StepForm
  withdraws : (seat : ℕ) → StepForm
  looks : (cpu : ℕ) → Firing → StepForm
  offers : (cpu seat : ℕ) → StepForm
  closes : (seat : ℕ) → StepForm

abbrev pub form_of_step : Step → StepForm
form_of_step (Open seat name) = opens seat name.items
form_of_step (Ask seat line) = asks seat (form_asked line)
form_of_step (Publish seat) = publishes seat
form_of_step (Finish seat) = finishes seat
form_of_step (Withdraw seat) = withdraws seat
form_of_step (Look cpu firing) = looks cpu firing
form_of_step (Offer cpu seat) = offers cpu seat
form_of_step (Close seat) = closes seat

-- What comes of the world, or of what is on a seat, where something is there; without it all stays as it is.
abbrev pub where_some : {A B : Type 0} → Option A → (same : B) → (A → B) → B
where_some found same then_ = option_map_or then_ found same

-- the world with this on a seat
abbrev pub with_place : World → (seat : ℕ) → Place → World
with_place world seat place =
    record world { places = λ other. if seat == other then place else world.places other }

-- the world with this session on a seat
abbrev pub with_session : World → (seat : ℕ) → Session → World
with_session world seat session =
    with_place world seat (record { present = Some session; earlier = (world.places seat).earlier })

abbrev pub question_of : World → (seat : ℕ) → Session → LineForm → Question
question_of world seat session line = record {
  seat = seat;
  number = number_on world seat;
  account = session.account;
  view = session.view;
  line = line;
}

-- the session on a seat is answered to a line, which reaches it so
abbrev pub answering : World → (seat : ℕ) → Session → LineForm → World
answering world seat session line = record (with_session world seat (answered session line)) {
  questions = world.questions ++ question_of world seat session line ∷ [];
}

-- Open, on a free seat: an account of the machine with a dtrace privilege begins a session.
unfoldable pub opening : Registry → World → (seat : ℕ) → (name : List ℕ) → World
opening registry world seat name =
    if nat_lt seat seat_count && is_none (world.places seat).present
    then where_some (session_account registry name) world (λ account. with_session world seat (new_session account))
    else world

-- Ask, of a session that may ask: an accepted `go` is pending, any other line is answered.
unfoldable pub asking : Registry → World → (seat : ℕ) → LineForm → World
asking registry world seat line =
    where_some (world.places seat).present world (λ session.
    if may_ask registry session
    then (if accepts_go registry session line then with_session world seat (waiting session line false)
    else answering world seat session line)
    else world)

-- the interest of a session with a pending `go` is published
abbrev pub publishing_of : Registry → World → (seat : ℕ) → Session → Pending → World
publishing_of registry world seat session pending = record (with_session world seat (waiting session pending.line true)) {
  writes = published seat (number_on world seat) session.account
      (interest_of (ecbs session.account registry (life_in registry session))) ∷ world.writes;
}

-- Publish, where a `go` is pending and not published.
unfoldable pub publishing : Registry → World → (seat : ℕ) → World
publishing registry world seat =
    where_some (world.places seat).present world (λ session.
    where_some session.go world (λ pending.
    if pending.published then world else publishing_of registry world seat session pending))

-- Finish, where a published `go` is pending: it takes effect, and is answered.
unfoldable pub finishing : World → (seat : ℕ) → World
finishing world seat =
    where_some (world.places seat).present world (λ session.
    where_some session.go world (λ pending.
    if pending.published then answering world seat session pending.line else world))

-- Withdraw, on a free seat, and where the session is not active and no `go` is pending: the publication goes.
unfoldable pub withdrawing : Registry → World → (seat : ℕ) → World
withdrawing registry world seat =
    if option_map_or (may_withdraw registry) (world.places seat).present true
    then record world { writes = withdrawn seat ∷ world.writes } else world

-- no offer is left
unfoldable pub is_done : (ℕ → Option DueOffer) → Bool
is_done due = list_all (λ seat. is_none (due seat)) (range_with_len 0 seat_count)

-- what is on a seat after a look named this life of it, or none: the firing reaches a session that isn't named
abbrev pub passed : Firing → (named : Option ℕ) → Place → Place
passed firing named place =
    where_some place.present place (λ session.
    if option_map_or (λ life. life == length place.earlier) named false then place
    else record place { present = Some (reached session (firing_made firing)) })

-- a look names these lives: offers are due to their seats, and the firing reaches the sessions that aren't named
abbrev pub looking_at : World → (cpu : ℕ) → Firing → (ℕ → Option ℕ) → World
looking_at world cpu firing mask = record {
  places = λ seat. passed firing (mask seat) (world.places seat);
  writes = world.writes;
  due = λ other seat. if other == cpu then option_map (λ life. record { life = life; firing = firing }) (mask seat)
      else world.due other seat;
  questions = world.questions;
  looks = world.looks ++ mask ∷ [];
}

-- a look is enabled: the processor exists and is the firing's, and none of its offers is left
abbrev pub may_look : Registry → World → (cpu : ℕ) → Firing → Bool
may_look registry world cpu firing = nat_lt cpu registry.cpus && (firing.cpu == cpu && is_done (world.due cpu))

-- Look, where it is enabled.
unfoldable pub looking : Registry → World → (cpu : ℕ) → Firing → World
looking registry world cpu firing =
    if may_look registry world cpu firing
    then looking_at world cpu firing (mask_of registry world.writes firing) else world

-- what is on a seat after an offer: the firing reaches the session that was named, if that goes on
abbrev pub offered : DueOffer → Place → Place
offered due place =
    where_some place.present place (λ session.
    if due.life == length place.earlier
    then record place { present = Some (reached session (firing_made due.firing)) } else place)

abbrev pub offering_of : World → (cpu seat : ℕ) → DueOffer → World
offering_of world cpu seat due = record (with_place world seat (offered due (world.places seat))) {
  due = λ other at. if other == cpu && at == seat then None else world.due other at;
}

-- Offer, where one is left to the seat.
unfoldable pub offering : World → (cpu seat : ℕ) → World
offering world cpu seat = where_some (world.due cpu seat) world (λ due. offering_of world cpu seat due)

-- Close, where a session is there: the seat is free, and a pending `go` is lost.
unfoldable pub closing : World → (seat : ℕ) → World
closing world seat =
    where_some (world.places seat).present world (λ session.
    with_place world seat (record { present = None; earlier = session ∷ (world.places seat).earlier }))

-- what a step does
abbrev pub after_step : Registry → World → StepForm → World
after_step registry world (opens seat name) = opening registry world seat name
after_step registry world (asks seat line) = asking registry world seat line
after_step registry world (publishes seat) = publishing registry world seat
after_step registry world (finishes seat) = finishing world seat
after_step registry world (withdraws seat) = withdrawing registry world seat
after_step registry world (looks cpu firing) = looking registry world cpu firing
after_step registry world (offers cpu seat) = offering world cpu seat
after_step registry world (closes seat) = closing world seat

-- the world after these steps, the oldest first
abbrev pub world_after : Registry → List StepForm → World
world_after registry steps = fold (after_step registry) new_world steps
