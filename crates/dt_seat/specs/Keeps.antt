-- What a seat keeps for each processor, and what a processor has at a seat.
use Rattle.std.specs.Prelude.{◌≡◌, ◌≢◌, ◌<◌, ◌+◌, ◌==◌, ◌⊎◌, ℕ, List, [], Option, Some, None, IfSome, if◌then◌else◌}
use mathlib.Core.List.{IsPrefix}
use Rattle.atomic_table.specs.Seated.{TableId}
use Rattle.dt_cred.specs.declared.account.Account.{Account}
use Rattle.dt_facts.specs.Facts.{processor_fact, last_note}
use Rattle.dt_facts.specs.Handles.{BegunLists, HeldFact, holding}
use Rattle.dt_facts.specs.Lives.{IsRowOfLife, items_of_life, lives_over}
use Rattle.dt_facts.specs.declared.fact.Fact.{Fact}
use Rattle.dt_facts.specs.declared.fact.Fact.TheVariants as kinds
use Rattle.dt_facts.specs.declared.fact.LastNote.{LastNote}
use Rattle.dt_facts.specs.declared.fact.LifeItem.{LifeItem}
use Rattle.dt_facts.specs.declared.fact.LifeStep.{LifeStep}
use Rattle.dt_seat.specs.Names.{known_name, life_name, processor_name}
use Rattle.dt_seat.specs.declared.told_of.ToldOf.{ToldOf}
use Rattle.dt_trail.specs.Items.{StartsWith, TrailItem, own}
use Rattle.dt_trail.specs.Known.{Noted, noted}
use Rattle.dt_trail.specs.declared.law.Named.{Named}

-- what a seat keeps for a processor: its note, as long as it wasn't taken, and the book of what it took here
pub record KeptNote : Type 0 where
  pub note : Option (Noted Account)
  pub book : HeldFact

abbrev pub kept : Option (Noted Account) → HeldFact → KeptNote
kept note book = record { note = note; book = book }

abbrev pub without_note : KeptNote → KeptNote
without_note k = kept None k.book

-- what a processor has at a seat: which life's note it took last, which lives of the seat it knows, that note, and what it was told of a later life
pub record Followed : Type 0 where
  pub seat : ℕ
  pub cpu : ℕ
  pub took : Option LastNote
  pub lives : List LifeStep
  pub note : Option (Noted Account)
  pub told : Option ToldOf

-- below which number a processor knows that all lives are over
abbrev pub over_of : Followed → ℕ
over_of f = lives_over f.lives

-- The life of this number is of this account: it opened with a trail of it.
abbrev pub IsOfAccount : (life : ℕ) → Account → List LifeStep → Type 0
IsOfAccount life account lives = (row : Named Account) × IsRowOfLife life row lives × (account ≡ row.account)

-- what a processor has at a seat where it took nothing
abbrev pub followed_at : (seat cpu : ℕ) → Followed
followed_at seat cpu = record { seat = seat; cpu = cpu; took = None; lives = []; note = None; told = None }

-- what a fact says that a processor took
abbrev pub took_in : Fact → Option LastNote
took_in (kinds.Processor processor) = processor.took
took_in fact = None

-- The life is an earlier one.
abbrev pub IsEarlier : ℕ → Option LastNote → Type 0
IsEarlier life took = IfSome took (λ last. last.life < life)

-- the book or the share of what a processor took at a seat
abbrev pub SaysTaken : TableId → (cpus seat cpu : ℕ) → HeldFact → Type 0
SaysTaken word cpus seat cpu held = held ≡ holding word (processor_name cpus seat cpu) (processor_fact (took_in held.fact))

-- What is kept for a processor at a seat in this life, which is open. As long as its note lies there, it is new, no item of the trail is
-- the processor's, and the processor took no note of this life; once it doesn't, the processor took it.
pub record IsKeptFor (word : TableId) (cpus seat cpu life : ℕ) (row : Named Account) (knows : List TrailItem) (k : KeptNote) : Type 0 where
  pub book : SaysTaken word cpus seat cpu k.book
  pub untaken : (n : Noted Account) → k.note ≡ Some n
      → (n ≡ noted row (cpu + 1) []) × (own (cpu + 1) knows ≡ []) × IsEarlier life (took_in k.book.fact)
  pub taken : k.note ≡ None → took_in k.book.fact ≡ Some (last_note life row)

-- What is kept for a processor at a seat where no life is open, and the next is of this number: no note.
pub record IsLeft (word : TableId) (cpus seat cpu life : ℕ) (k : KeptNote) : Type 0 where
  pub book : SaysTaken word cpus seat cpu k.book
  pub earlier : IsEarlier life (took_in k.book.fact)
  pub none : k.note ≡ None

-- What was told of a life: the seat's lives say its trail, its items begin those that are known of the life, and it is later than that
-- whose note was taken.
pub record IsToldOf (lives : List LifeStep) (known : List LifeItem) (took : Option LastNote) (t : ToldOf) : Type 0 where
  pub row : Named Account
  pub named : IsRowOfLife t.life row lives
  pub same_row : t.told.row ≡ row.id
  pub begins : StartsWith (items_of_life t.life known) t.told.knows
  pub later : IsEarlier t.life took

-- What a processor has at a seat: the share of what it took there; beginnings of the seat's lives and of what its sessions knew; the note of the
-- life that it took last, with its trail; and what it was told of a later life.
pub record IsFollower (word : TableId) (cpus seat cpu life : ℕ) (share : HeldFact) (lives known : BegunLists) (note : Option (Noted Account))
    (told : Option ToldOf) : Type 0 where
  pub share_is : SaysTaken word cpus seat cpu share
  pub lives_of : (lives.word ≡ word) × (lives.name ≡ life_name cpus seat)
  pub known_of_seat : (known.word ≡ word) × (known.name ≡ known_name cpus seat)
  pub one : (n : Noted Account) → note ≡ Some n
      → (took_in share.fact ≡ Some (last_note life n.row)) × (n ≡ noted n.row (cpu + 1) n.knows) × IsRowOfLife life n.row lives.lists.lives
  pub none : note ≡ None → took_in share.fact ≡ None
  pub heard : IfSome told (IsToldOf lives.lists.lives known.lists.items (took_in share.fact))

abbrev pub followed : (seat cpu : ℕ) → HeldFact → BegunLists → Option (Noted Account) → Option ToldOf → Followed
followed seat cpu share lives note told =
    record { seat = seat; cpu = cpu; took = took_in share.fact; lives = lives.lists.lives; note = note; told = told }

-- the items that a note knows
abbrev pub known_by : Option (Noted Account) → List TrailItem
known_by None = []
known_by (Some n) = n.knows

-- the items of a life that were told
abbrev pub told_in : ℕ → Option ToldOf → List TrailItem
told_in life None = []
told_in life (Some t) = if t.life == life then t.told.knows else []

-- the items that a processor knows of a life at a seat: what its note knows, if it is of this life, and else what it was told of it
abbrev pub known_in : ℕ → Option LastNote → List TrailItem → Option ToldOf → List TrailItem
known_in life None knows told = told_in life told
known_in life (Some last) knows told = if last.life == life then knows else told_in life told

abbrev pub known_of : ℕ → Followed → List TrailItem
known_of life f = known_in life f.took (known_by f.note) f.told

-- the items of a life that a processor's note knows
abbrev pub noted_in : ℕ → Option LastNote → List TrailItem → List TrailItem
noted_in life None knows = []
noted_in life (Some last) knows = if last.life == life then knows else []

abbrev pub noted_of : ℕ → Followed → List TrailItem
noted_of life f = noted_in life f.took (known_by f.note)

-- Of a life that isn't over the same is known as before, and by the same note, but for this one; and no less is known of the seat's lives.
pub record Carries (old new : Followed) (life : ℕ) : Type 0 where
  pub seat : new.seat ≡ old.seat
  pub cpu : new.cpu ≡ old.cpu
  pub lives : IsPrefix old.lives new.lives
  pub same : (l : ℕ) → l ≢ life → (l < over_of new) ⊎ (known_of l new ≡ known_of l old)
  pub noted : (l : ℕ) → l ≢ life → (l < over_of new) ⊎ (noted_of l new ≡ noted_of l old)

-- the same, with these lives known of the seat
abbrev pub with_lives : Followed → List LifeStep → Followed
with_lives f lives = record { seat = f.seat; cpu = f.cpu; took = f.took; lives = lives; note = f.note; told = f.told }

-- the same, with this note
abbrev pub with_note : Followed → Noted Account → Followed
with_note f note = record { seat = f.seat; cpu = f.cpu; took = f.took; lives = f.lives; note = Some note; told = f.told }

-- what a processor has at a seat once it let go of its note: it took none
abbrev pub without_taken : Followed → Followed
without_taken f = record { seat = f.seat; cpu = f.cpu; took = None; lives = f.lives; note = None; told = f.told }

-- Only of lives that are over anything is forgotten, and no less is known of the seat's lives. The note is the same, or let go.
pub record Forgets (old new : Followed) : Type 0 where
  pub seat : new.seat ≡ old.seat
  pub cpu : new.cpu ≡ old.cpu
  pub lives : IsPrefix old.lives new.lives
  pub note : (new.note ≡ old.note) ⊎ (new.note ≡ None)
  pub same : (l : ℕ) → (l < over_of new) ⊎ (known_of l new ≡ known_of l old)
  pub noted : (l : ℕ) → (l < over_of new) ⊎ (noted_of l new ≡ noted_of l old)
