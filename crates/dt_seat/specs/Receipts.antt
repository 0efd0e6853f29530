-- What a session hands on, and what a processor that was told knows.
use Rattle.std.specs.Prelude.{◌≡◌, ◌≢◌, ◌<◌, ◌+◌, ◌⊎◌, ◌==◌, ℕ, List, [], Option, Some, None, nat_lt, if◌then◌else◌}
use mathlib.Core.List.{IsPrefix}
use Rattle.atomic_table.specs.Seated.{TableId}
use Rattle.dt_chain.specs.Writes.{Write}
use Rattle.dt_cred.specs.declared.account.Account.{Account}
use Rattle.dt_facts.specs.Facts.{growing_lists}
use Rattle.dt_facts.specs.Handles.{BegunLists, begun}
use Rattle.dt_facts.specs.Lives.{IsOpenAs, items_of_life}
use Rattle.dt_seat.specs.Keeps.{Followed, known_by, known_of, over_of}
use Rattle.dt_seat.specs.Names.{known_name, life_name}
use Rattle.dt_seat.specs.declared.told_of.ToldOf.{ToldOf}
use Rattle.dt_trail.specs.Items.{StartsWith, TrailItem, longer, own}
use Rattle.dt_trail.specs.Known.{Heard}
use Rattle.dt_trail.specs.declared.law.Named.{Named}

-- what contracts see of a receipt: whose it is, what that session knew, and which writes it knew to be published
pub record Received : Type 0 where
  pub seat : ℕ
  pub life : ℕ
  pub account : Account
  pub knows : List TrailItem
  pub published : List Write

-- A receipt has what was told of a life; beginnings of the seat's lives, of which this one is the last, and of what its sessions knew.
pub record IsReceipt (word : TableId) (cpus seat life : ℕ) (account : Account) (told : Heard) (lives known : BegunLists) : Type 0 where
  pub row : Named Account
  pub same_row : told.row ≡ row.id
  pub same_account : account ≡ row.account
  pub lives_are : lives ≡ begun word (life_name cpus seat) (growing_lists [] [] lives.lists.lives)
  pub is_open : IsOpenAs life row lives.lists.lives
  pub known_is : known ≡ begun word (known_name cpus seat) (growing_lists [] known.lists.items [])
  pub knows : items_of_life life known.lists.items ≡ told.knows

-- What a processor knows once it was told: of the life at least what it was told and what it knew, or that life is over; of each other life
-- what it knew, or that is over; and its own firings are those that it knew.
pub record HasHeard (received : Received) (old new : Followed) : Type 0 where
  pub seat : new.seat ≡ old.seat
  pub cpu : new.cpu ≡ old.cpu
  pub took : new.took ≡ old.took
  pub lives : IsPrefix old.lives new.lives
  pub told : (received.life < over_of new) ⊎ StartsWith (known_of received.life new) received.knows
  pub kept : (received.life < over_of new) ⊎ StartsWith (known_of received.life new) (known_of received.life old)
  pub one : (received.life < over_of new) ⊎ (known_of received.life new ≡ longer (known_of received.life old) received.knows)
  pub same : (l : ℕ) → l ≢ received.life → (l < over_of new) ⊎ (known_of l new ≡ known_of l old)
  pub own_same : own (old.cpu + 1) (known_by new.note) ≡ own (old.cpu + 1) (known_by old.note)

abbrev pub told_of : ℕ → Heard → ToldOf
told_of life told = record { life = life; told = told }

-- of what was told of two lives, that of the later one; of what was told twice of one life, the longer
abbrev pub later_told : Option ToldOf → ToldOf → ToldOf
later_told None newer = newer
later_told (Some earlier) newer =
    if earlier.life == newer.life then told_of newer.life (record { row = newer.told.row; knows = longer earlier.told.knows newer.told.knows })
    else if nat_lt earlier.life newer.life then newer else earlier
