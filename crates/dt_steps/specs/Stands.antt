-- When the seats with their consumers stand for a world.
use Rattle.std.specs.Prelude.{◌≡◌, ◌==◌, ◌&&◌, ℕ, Bool, true, false, not, List, [], ◌∷◌, ◌++◌, Option, Some, None}
use Rattle.std.specs.Prelude.{IfSome, MatchOption, MatchBool, is_some, length, slice_get, if◌then◌else◌}
use Rattle.std.specs.List.{list_any}
use Rattle.std.specs.Option.{option_map, option_map_or, option_and_then}
use Rattle.dt_cred.specs.declared.account.Account.{Account}
use Rattle.dt_machine.specs.Context.{IsContext}
use Rattle.dt_machine.specs.Registry.{Registry}
use Rattle.dt_machine.specs.declared.context.Context.{Context}
use Rattle.dt_cred.specs.declared.firing.Firing.{Firing}
use Rattle.dt_chain.specs.IsAt as chain
use Rattle.dt_chain.specs.Seats.{has, life_at}
use Rattle.dt_chain.specs.Writes.{Write, published}
use Rattle.dt_chain.specs.declared.entries.Entries.{Entries}
use Rattle.dt_chain.specs.Limits.{seat_count}
use Rattle.dt_chain.specs.declared.seat_mask.SeatMask.{SeatMask}
use Rattle.dt_chain.specs.declared.seat_set.SeatSet.{SeatSet}
use Rattle.dt_life.specs.Acceptance.{IsAcceptedGo}
use Rattle.dt_consumer.specs.Draft.{IsDraftOf}
use Rattle.dt_life.specs.Answer.{Answer}
use Rattle.dt_life.specs.Life.{Item, ecbs}
use Rattle.dt_life.specs.Reply.{Replies}
use Rattle.dt_consumer.specs.StandsFor.{StandsFor}
use Rattle.dt_proto.specs.Asked.{form_asked}
use Rattle.dt_proto.specs.Line.{ask_in}
use Rattle.dt_proto.specs.Lines.{LineForm}
use Rattle.dt_proto.specs.Reply.{reply_text}
use Rattle.dt_proto.specs.Session.{session_account}
use Rattle.dt_proto.specs.Alone.{IsText}
use Rattle.dt_steps.specs.Ran.{IsReply}
use Rattle.dt_steps.specs.Sound.{IsSoundWorld}
use Rattle.dt_steps.specs.Steps.{may_look, looking}
use Rattle.dt_life.specs.Tests.{is_seen}
use Rattle.dt_ecb.specs.Interest.{interest_of}
use Rattle.dt_steps.specs.World as world
use Rattle.dt_steps.specs.World.{World, DueOffer, Question, life_in, is_closing, new_session}
use Rattle.dt_steps.specs.World.{answered, waiting, may_ask, accepts_go}
use Rattle.dt_steps.specs.declared.engine.Engine.{Engine}
use Rattle.dt_steps.specs.declared.place.Place.{Place}
use Rattle.dt_steps.specs.declared.due.DueOffers.{DueOffers}
use Rattle.dt_steps.specs.declared.due.ScriptPlace.{ScriptPlace}
use Rattle.dt_steps.specs.declared.session.Session.{Session}
use Rattle.dt_steps.specs.declared.session.Pending.{Pending}

-- a `go` is pending, and its interest is published; or it isn't yet
abbrev pub is_published : world.Session → Bool
is_published session = option_map_or (λ pending. pending.published) session.go false

abbrev pub is_unpublished : world.Session → Bool
is_unpublished session = option_map_or (λ pending. not pending.published) session.go false

-- the seat with this session
abbrev pub with_present : world.Place → world.Session → world.Place
with_present place session = record place { present = Some session }

-- what is on a seat after its session was closed
abbrev pub closed_on : world.Place → world.Place
closed_on place = option_map_or
    (λ session. record { present = None; earlier = session ∷ place.earlier }) place.present place

-- the account of the session on a seat, where that is the first there
abbrev pub first_account : world.Place → Option Account
first_account place = option_and_then
    (λ session. if length place.earlier == 0 then Some session.account else None) place.present

-- where a firing stands in the scripts
abbrev pub place_of : Firing → ScriptPlace
place_of firing = record { cpu = firing.cpu; place = firing.place }

-- what a processor owes to a seat of what it looked for
abbrev pub due_by : Option Context → (life : Option ℕ) → Option DueOffer
due_by context life = option_and_then
    (λ context. option_map (λ life. record { life = life; firing = context.firing.now }) life) context

abbrev pub due_of : DueOffers → (seat : ℕ) → Option DueOffer
due_of looked seat = due_by looked.context (life_at looked.left seat)

abbrev pub due_in : Option DueOffers → (seat : ℕ) → Option DueOffer
due_in (Some looked) seat = due_of looked seat
due_in None seat = None

module _ (registry : Registry) where
  -- What is kept of a pending `go`, which is an accepted one: its line, whether it is published, the draft, and the text of
  -- the reply that is due to it.
  pub record IsPending (account : Account) (life : List Item) (pending : world.Pending) (kept : Pending) : Type 0 where
    pub line : form_asked kept.line ≡ pending.line
    pub published : kept.is_published ≡ pending.published
    pub accepted : IsAcceptedGo account registry life (ask_in pending.line)
    pub drafted : IsDraftOf account registry life (ask_in pending.line) kept.draft
    pub answer : Answer
    pub replies : Replies account registry life (ask_in pending.line) answer
    pub text : kept.text.items ≡ reply_text answer

  abbrev pub IsPendingGo : Account → List Item → Option world.Pending → Option Pending → Type 0
  IsPendingGo account life None None = Unit {0}
  IsPendingGo account life None (Some kept) = ⊥
  IsPendingGo account life (Some pending) None = ⊥
  IsPendingGo account life (Some pending) (Some kept) = IsPending account life pending kept

  -- What is kept of a session of this account, this life and this pending `go`: its consumer stands for the life.
  pub record IsSessionOf (account : Account) (life : List Item) (go : Option world.Pending) (kept : Session) : Type 0 where
    pub owner : kept.account ≡ account
    pub stands : StandsFor account registry kept.consumer life
    pub closed : kept.is_closed ≡ list_any is_closing life
    pub pending : IsPendingGo account life go kept.go

  -- the session on a seat sees the firing that is due to it
  abbrev pub sees_on : DueOffer → world.Place → Bool
  sees_on due place = option_map_or
      (λ session. (due.life == length place.earlier)
      && is_seen session.account registry (life_in registry session) due.firing) place.present false

  -- the firing that an offer brings to the session on a seat, where it is seen
  abbrev pub seen_in : World → (cpu seat : ℕ) → Option Firing
  seen_in world cpu seat = option_and_then
      (λ due. if sees_on due (world.places seat) then Some due.firing else None) (world.due cpu seat)

  abbrev pub IsSession : world.Session → Session → Type 0
  IsSession session kept = IsSessionOf session.account (life_in registry session) session.go kept

  abbrev pub IsPresent : Option world.Session → Option Session → Type 0
  IsPresent None None = Unit {0}
  IsPresent None (Some kept) = ⊥
  IsPresent (Some session) None = ⊥
  IsPresent (Some session) (Some kept) = IsSession session kept

  -- What is kept of a seat: its session, and how many were there before it.
  pub record IsPlace (place : world.Place) (kept : Place) : Type 0 where
    pub counted : kept.earlier ≡ length place.earlier
    pub present : IsPresent place.present kept.present

  -- A line was asked of a session that may ask: an accepted `go` is pending without a reply, any other is answered.
  abbrev pub IsAsked : world.Session → LineForm → (reply : Option (List ℕ)) → Session → Type 0
  IsAsked session line None kept =
      (accepts_go registry session line ≡ true) × IsSession (waiting session line false) kept
  IsAsked session line (Some text) kept =
      (accepts_go registry session line ≡ false) × IsSession (answered session line) kept
      × IsText session.account registry session.view line text

  -- A published `go` took effect, and is answered; or none is pending, and nothing happened.
  abbrev pub IsFinishing : world.Session → (reply : Option (List ℕ)) → Session → Type 0
  IsFinishing session None kept = (is_published session ≡ false) × IsSession session kept
  IsFinishing session (Some text) kept =
      (pending : world.Pending) × (session.go ≡ Some pending) × (pending.published ≡ true)
      × IsText session.account registry session.view pending.line text
      × IsSession (answered session pending.line) kept

  -- what is on a seat after an account opens a session there
  abbrev pub opened_on : world.Place → (name : List ℕ) → world.Place
  opened_on place name =
      if is_some place.present then place else
      option_map_or (λ account. with_present place (new_session account)) (session_account registry name) place

  -- A line was asked on a seat.
  abbrev pub IsAskedOn : world.Place → LineForm → (reply : Option (List ℕ)) → Place → Type 0
  IsAskedOn place line reply kept = MatchOption place.present ((reply ≡ None) × IsPlace place kept)
      (λ session. MatchBool (may_ask registry session)
      ((own : Session) × (kept.earlier ≡ length place.earlier) × (kept.present ≡ Some own)
      × IsAsked session line reply own)
      ((reply ≡ None) × IsPlace place kept))

  -- A published `go` took effect on a seat, if there was one.
  abbrev pub IsFinishedOn : world.Place → (reply : Option (List ℕ)) → Place → Type 0
  IsFinishedOn place reply kept = MatchOption place.present ((reply ≡ None) × IsPlace place kept)
      (λ session. (own : Session) × (kept.earlier ≡ length place.earlier) × (kept.present ≡ Some own)
      × IsFinishing session reply own)

  -- The interest of the session on a seat was published, if its pending `go` wasn't yet.
  abbrev pub IsPublishedOn : (seat : ℕ) → world.Place → List Write → Place → Entries → Type 0
  IsPublishedOn seat place writes kept publications =
      let same = IsPlace place kept × chain.EntriesAreAt writes publications in
      MatchOption place.present same (λ session. MatchOption session.go same (λ pending. MatchBool pending.published same
      (IsPlace (with_present place (waiting session pending.line true)) kept
      × chain.EntriesAreAt (published seat (length place.earlier) session.account
      (interest_of (ecbs session.account registry (life_in registry session))) ∷ writes) publications)))

  -- What is kept is that of a world: of each seat, of each processor, and the publications.
  pub record WorldIsKept (world : World) (seats : List Place) (publications : Entries) (processors : List DueOffers)
      : Type 0 where
    pub all : length seats ≡ seat_count
    pub places : (seat : ℕ) → IfSome (slice_get seats seat) (IsPlace (world.places seat))
    pub published : chain.EntriesAreAt world.writes publications
    pub cpus : length processors ≡ registry.cpus
    pub due : (cpu seat : ℕ) → world.due cpu seat ≡ due_in (slice_get processors cpu) seat
    pub contexts : (cpu : ℕ) → IfSome (slice_get processors cpu) (λ looked. IfSome looked.context (IsContext registry))

  -- The seats with their consumers stand for a world: it is sound, and what is kept is the world's.
  abbrev pub EngineIsAt : World → Engine → Type 0
  EngineIsAt world engine = IsSoundWorld registry world
      × WorldIsKept world engine.seats.items engine.publications engine.processors.items

  -- A step answered this at a seat, or nothing: one question more, and its reply; or none more.
  abbrev pub IsAnswered : (before after : World) → (seat : ℕ) → (reply : Option (List ℕ)) → Type 0
  IsAnswered before after seat None = after.questions ≡ before.questions
  IsAnswered before after seat (Some text) =
      (question : Question) × (after.questions ≡ before.questions ++ question ∷ [])
      × IsReply registry question (seat, text)

-- A look named these seats, which are those to which offers are due after it; or it isn't enabled.
abbrev pub IsNaming : Registry → World → (cpu : ℕ) → Firing → Option SeatSet → Type 0
IsNaming registry world cpu firing None = may_look registry world cpu firing ≡ false
IsNaming registry world cpu firing (Some seats) = (may_look registry world cpu firing ≡ true)
    × ((seat : ℕ) → has seats seat ≡ is_some ((looking registry world cpu firing).due cpu seat))

-- A look named these lives, or it wasn't enabled.
abbrev pub IsLooked : (before after : World) → Option SeatMask → Type 0
IsLooked before after None = after.looks ≡ before.looks
IsLooked before after (Some mask) =
    (look : ℕ → Option ℕ) × (after.looks ≡ before.looks ++ look ∷ []) × ((seat : ℕ) → life_at mask seat ≡ look seat)
