-- What a session has.
use Rattle.std.specs.Prelude.{◌≡◌, ◌+◌, ◌==◌, ℕ, List, [], ◌∷◌, Option, if◌then◌else◌}
use Rattle.atomic_table.specs.Seated.{TableId}
use Rattle.dt_chain.specs.Writes.{Write}
use Rattle.dt_cred.specs.declared.account.Account.{Account}
use Rattle.dt_facts.specs.Facts.{growing_lists}
use Rattle.dt_facts.specs.Handles.{BegunLists, HeldFact, begun}
use Rattle.dt_facts.specs.Lives.{IsOpenAs, items_of_life}
use Rattle.dt_machine.specs.Registry.{Contents}
use Rattle.dt_seat.specs.Knowledge.{AreUnknownFrom, KnownItems, SaysLives, known_items, steps_in}
use Rattle.dt_seat.specs.Names.{known_name, life_name}
use Rattle.dt_seat.specs.Publications.{IsPublished, writes_seen}
use Rattle.dt_seat.specs.declared.line_kept.LineKept.{LineKept}
use Rattle.dt_trail.specs.Items.{TrailItem, whose}
use Rattle.dt_trail.specs.Known.{Noted}
use Rattle.dt_trail.specs.declared.law.Named.{Named}

-- what contracts see of a session: its seat, its number there, its trail with its account, what it knows of that trail, and which writes it
-- knows to be published: none before it published
pub record Sat : Type 0 where
  pub seat : ℕ
  pub life : ℕ
  pub row : Named Account
  pub account : Account
  pub knows : List TrailItem
  pub published : List Write

abbrev pub session_seen : (seat life : ℕ) → Noted Account → Option (List Write) → Sat
session_seen seat life note front =
    record { seat = seat; life = life; row = note.row; account = note.row.account; knows = note.knows; published = writes_seen front }

abbrev pub line_kept : ℕ → TrailItem → LineKept
line_kept place item = record { place = place; item = item }

-- the lines among these items, each with its place; the first of the items has this place
abbrev pub lines_from : ℕ → List TrailItem → List LineKept
lines_from place [] = []
lines_from place (item ∷ items) =
    if whose item == 0 then line_kept place item ∷ lines_from (place + 1) items else lines_from (place + 1) items

-- What a session wrote down: the trail's first note; its own lines; and that its publication is there, once its `go` was accepted.
pub record IsNotebook (contents : Contents) (seat life : ℕ) (note : Noted Account) (lines : List LineKept) (front : Option (List Write)) : Type 0 where
  pub first : note.number ≡ 0
  pub own_lines : lines ≡ lines_from 0 note.knows
  pub published : IsPublished contents seat life note.row.account note.knows (writes_seen front)

-- A session has its account; the share of its seat's lives, of which the last is its own and open, with its trail; a beginning of these; and what the sessions of
-- the seat knew, of its life what its note knows, and of a later one nothing.
pub record IsSessionOn (word : TableId) (cpus seat life : ℕ) (account : Account) (share : HeldFact) (lives : BegunLists) (known : KnownItems)
    (note : Noted Account) : Type 0 where
  pub mine : account ≡ note.row.account
  pub share_is : SaysLives word cpus seat share
  pub is_open : IsOpenAs life note.row (steps_in share.fact)
  pub lives_are : lives ≡ begun word (life_name cpus seat) (growing_lists [] [] (steps_in share.fact))
  pub known_is : known ≡ known_items word (known_name cpus seat) known.list
  pub knows : items_of_life life known.list ≡ note.knows
  pub later : AreUnknownFrom (life + 1) known.list
