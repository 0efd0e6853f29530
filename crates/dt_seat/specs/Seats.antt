-- What a seat keeps under its lock, and what a processor finds there.
use Rattle.std.specs.Prelude.{◌≡◌, ◌<◌, ◌≤◌, ◌+◌, ◌^◌, ◌++◌, ◌∷◌, ℕ, List, [], Option, Some, None, IfSome, IsSomeAnd, MatchOption, length, option_map, slice_get, if◌then◌else◌}
use mathlib.Core.List.{IsPrefix}
use Rattle.atomic_table.specs.Seated.{TableId}
use Rattle.dt_chain.specs.Writes.{Write}
use Rattle.dt_cred.specs.declared.account.Account.{Account}
use Rattle.dt_cred.specs.declared.firing.Firing.{Firing}
use Rattle.dt_facts.specs.Facts.{last_note}
use Rattle.dt_facts.specs.Handles.{HeldFact}
use Rattle.dt_facts.specs.Lives.{AreClosed, IsOpenAs, IsRowOfLife}
use Rattle.dt_legal.specs.Rows.{IsLegalRow, line_form_of, life_of_row}
use Rattle.dt_life.specs.Acceptance.{is_close}
use Rattle.dt_life.specs.Life.{is_over}
use Rattle.dt_life.specs.Sees.{Sees}
use Rattle.dt_machine.specs.Registry.{Contents}
use Rattle.dt_proto.specs.Line.{ask_in}
use Rattle.dt_seat.specs.Keeps.{Carries, Followed, IsKeptFor, IsLeft, KeptNote, known_of, over_of, with_lives}
use Rattle.dt_seat.specs.Knowledge.{AreUnknownFrom, SaysLives, known_items, steps_in}
use Rattle.dt_seat.specs.Names.{known_name}
use Rattle.dt_seat.specs.Trailed.{IsDue, IsTrailed, row_after}
use Rattle.dt_seat.specs.Publications.{IsPublished, writes_seen}
use Rattle.dt_seat.specs.Written.{HasNotNamed, HasPublished, HasWritten, writes_in}
use Rattle.dt_seat.specs.declared.after_line.AfterLine.{AfterLine}
use Rattle.dt_seat.specs.declared.after_line.AfterLine.TheVariants.{GoesOn, Closes, OverQuota}
use Rattle.dt_seat.specs.declared.held.Held.{Held}
use Rattle.dt_seat.specs.declared.held.Held.TheVariants.{Kept as WasKept, Unseen, Gone}
use Rattle.dt_seat.specs.declared.idle.Idle.{Idle}
use Rattle.dt_seat.specs.declared.present.Present.{Present}
use Rattle.dt_trail.specs.Items.{StartsWith, TrailItem, fired, own}
use Rattle.dt_trail.specs.Known.{Known, Noted}
use Rattle.dt_trail.specs.Limits.{trail_cpus_max}

-- what contracts see of a seat under its lock
pub record Seated : Type 0 where
  pub number : ℕ
  pub life : ℕ
  pub trail : Option (Known Account)
  pub writes : List Write

module _ {J : Type 0} where
  -- A seat with an open life: its book says that this one is the last and open, with its trail; the consumer stands for the trail; and what is kept for
  -- each processor is right.
  pub record IsTaken (word : TableId) (contents : Contents) (number life : ℕ) (lives : HeldFact) (present : Present J)
      (keeps : List KeptNote) : Type 0 where
    pub few : contents.registry.cpus ≤ trail_cpus_max
    pub many : length keeps ≡ contents.registry.cpus
    pub lives_are : SaysLives word contents.registry.cpus number lives
    pub is_open : IsOpenAs life present.owner.row (steps_in lives.fact)
    pub trailed : IsTrailed contents present.account present.owner present.consumer
    pub each : (cpu : ℕ) → IfSome (slice_get keeps cpu)
        (IsKeptFor word contents.registry.cpus number cpu life present.owner.row present.owner.knows)

-- What the next session of a seat gets: the share of the seat's lives, and what its sessions knew, which is nothing of a life to come.
pub record IsIdle (word : TableId) (contents : Contents) (number life : ℕ) (lives : HeldFact) (idle : Idle) : Type 0 where
  pub share : idle.share ≡ lives
  pub known_is : idle.known ≡ known_items word (known_name contents.registry.cpus number) idle.known.list
  pub later : AreUnknownFrom life idle.known.list

-- A seat without an open life, of which the next has this number: its book says that all lives are closed, and what the next session gets lies there.
pub record IsFree (word : TableId) (contents : Contents) (number life : ℕ) (lives : HeldFact) (free : Option Idle)
    (keeps : List KeptNote) : Type 0 where
  pub few : contents.registry.cpus ≤ trail_cpus_max
  pub many : length keeps ≡ contents.registry.cpus
  pub lives_are : SaysLives word contents.registry.cpus number lives
  pub all_closed : AreClosed life (steps_in lives.fact)
  pub idle : IsSomeAnd free (IsIdle word contents number life lives)
  pub each : (cpu : ℕ) → IfSome (slice_get keeps cpu) (IsLeft word contents.registry.cpus number cpu life)

module _ {J : Type 0} where
  -- What lies under a seat's lock: a session that is open, or none.
  abbrev pub IsSeat : TableId → Contents → (number life : ℕ) → Option (Present J) → HeldFact → Option Idle → List KeptNote → Type 0
  IsSeat word contents number life present lives free keeps = MatchOption present
      (IsFree word contents number life lives free keeps)
      (λ p. IsTaken word contents number life lives p keeps × (life + 1 < 2 ^ 64))

  -- What the share under a seat's lock says that the seat wrote: for the life that is open there, or with none.
  abbrev pub Wrote : TableId → Contents → (number life : ℕ) → Option (Present J) → HeldFact → Type 0
  Wrote word contents number life present writes = MatchOption present
      (HasNotNamed word number life writes)
      (λ p. HasWritten word contents number life p.account p.owner.knows writes)

  -- What is known under the lock of what its session published, if one is open.
  abbrev pub HoldsPublication : Contents → (number life : ℕ) → Option (Present J) → HeldFact → Type 0
  HoldsPublication contents number life present writes =
      IfSome present (λ p. HasPublished contents number life p.account p.owner.knows (writes_seen p.front) (writes_in writes.fact))

  -- what contracts see of it: which seat it is, how many sessions were there before, the trail of the present one, and what the seat wrote
  abbrev pub seated : ℕ → ℕ → Option (Present J) → HeldFact → Seated
  seated number life present writes =
      record { number = number; life = life; trail = option_map (λ p. p.owner) present; writes = writes_in writes.fact }

-- A trail goes on: it is the same row, which has lost nothing and no cell.
pub record TrailGoesOn (old new : Known Account) : Type 0 where
  pub row : new.row ≡ old.row
  pub longer : StartsWith new.knows old.knows
  pub cells : old.cells ≤ new.cells

-- A seat's trail goes on, if a session is open there; and none is where none was.
abbrev pub StaysOn : Option (Known Account) → Option (Known Account) → Type 0
StaysOn old new = MatchOption old (new ≡ None) (λ o. IsSomeAnd new (TrailGoesOn o))

-- A trail of the life begins with what was known of it, has no more of the processor's firings, and is legal.
pub record Reaches (contents : Contents) (account : Account) (cpu : ℕ) (known trail : List TrailItem) : Type 0 where
  pub begins : StartsWith trail known
  pub own_same : own (cpu + 1) trail ≡ own (cpu + 1) known
  pub legal : IsLegalRow account contents trail

-- The processor has the note of this life, which knows this; and all lives below this one are over, and no others: this one isn't.
pub record HasNote (life : ℕ) (f : Followed) (note : Noted Account) : Type 0 where
  pub took : f.took ≡ Some (last_note life note.row)
  pub has : f.note ≡ Some note
  pub over_is : over_of f ≡ life

-- A processor that has the note of a life knows of the life's publication, once the trail that it knows has the accepted `go`.
abbrev pub KnowsPublication : Contents → (life : ℕ) → Followed → (told : List Write) → Type 0
KnowsPublication contents life f told = (note : Noted Account) → HasNote life f note → IsPublished contents f.seat life note.row.account note.knows told

-- What comes of a firing that is offered to a life. Kept: the life's account sees it after a trail that begins with what was known, and it is
-- then the last item that is known. Unseen: it isn't seen after such a trail, which is then known. Of both the trail is the one with which the life opened. Gone: the life is
-- over, as the processor then knows, and nothing else changes.
abbrev pub ComesOfFiring : Contents → (life : ℕ) → Firing → Held → Followed → Followed → Type 0
ComesOfFiring contents life firing WasKept old new =
    Carries old new life
    × ((note : Noted Account) × (trail : List TrailItem) × HasNote life new note
    × Reaches contents note.row.account firing.cpu (known_of life old) trail
    × Sees note.row.account contents.registry (life_of_row note.row.account contents trail) firing
    × (note.knows ≡ trail ++ fired firing.cpu firing.place ∷ [])
    × IsRowOfLife life note.row new.lives)
ComesOfFiring contents life firing (Unseen known) old new =
    Carries old new life
    × ((note : Noted Account) × HasNote life new note
    × Reaches contents note.row.account firing.cpu (known_of life old) note.knows
    × (Sees note.row.account contents.registry (life_of_row note.row.account contents note.knows) firing → ⊥)
    × (length note.knows ≡ known)
    × IsRowOfLife life note.row new.lives)
ComesOfFiring contents life firing Gone old new = (new ≡ with_lives old new.lives) × IsPrefix old.lives new.lives × (life < over_of new)

-- the item of a firing that is kept
abbrev pub kept_items : Held → Firing → List TrailItem
kept_items WasKept firing = fired firing.cpu firing.place ∷ []
kept_items (Unseen known) firing = []
kept_items Gone firing = []

-- whether a session goes on after a line that is asked after this trail: not where the line is over the quota, and not where it is a `close` within it
abbrev pub after_line_of : Account → Contents → List TrailItem → TrailItem → AfterLine
after_line_of account contents trail item =
    if is_over (life_of_row account contents trail) then OverQuota else (if is_close (ask_in (line_form_of item)) then Closes else GoesOn)

-- What a session is answered to a line: the reply that is due after a trail that begins with what it knew, has its lines and no further
-- one, and is legal, and whether the session goes on after it; the session then knows this trail and the line, which is no part of it where
-- it is over the quota.
pub record IsRepliedTo (contents : Contents) (account : Account) (known : List TrailItem) (item : TrailItem) (text : List ℕ)
    (ending : AfterLine) (after : List TrailItem) : Type 0 where
  pub trail : List TrailItem
  pub begins : StartsWith trail known
  pub lines : own 0 trail ≡ own 0 known
  pub legal : IsLegalRow account contents trail
  pub due : IsDue account contents trail (line_form_of item) text
  pub after_is : after ≡ row_after account contents trail item
  pub ending_is : ending ≡ after_line_of account contents trail item
