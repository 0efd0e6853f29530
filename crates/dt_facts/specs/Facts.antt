-- What facts hold, and which fact may follow which.
use Rattle.std.specs.Prelude.{ℕ, List, [], Option}
use mathlib.Core.List.{IsPrefix}
use Rattle.dt_chain.specs.Writes.{Write}
use Rattle.dt_cred.specs.declared.account.Account.{Account}
use Rattle.dt_trail.specs.Items.{longer}
use Rattle.dt_trail.specs.declared.law.Named.{Named}
use Rattle.dt_facts.specs.declared.fact.Fact.{Fact}
use Rattle.dt_facts.specs.declared.fact.Fact.TheVariants as kinds
use Rattle.dt_facts.specs.declared.fact.GrowingLists.{GrowingLists}
use Rattle.dt_facts.specs.declared.fact.Knew.{Knew}
use Rattle.dt_facts.specs.declared.fact.LastNote.{LastNote}
use Rattle.dt_facts.specs.declared.fact.LifeItem.{LifeItem}
use Rattle.dt_facts.specs.declared.fact.LifeStep.{LifeStep}

-- of a name that was just made
abbrev pub nothing : Fact
nothing = kinds.Nothing

-- of a seat: how its lives opened and closed, the oldest first
abbrev pub life_fact : List LifeStep → Fact
life_fact steps = kinds.Life steps

-- of a processor at a seat: the last life whose note it took, with that note's trail
abbrev pub processor_fact : Option LastNote → Fact
processor_fact took = kinds.Processor (record { took = took })

abbrev pub last_note : ℕ → Named Account → LastNote
last_note life row = record { life = life; row = row }

-- of a processor: for each place of its script, of which life at each seat it knew how many items, in the order of seats
abbrev pub log_fact : List (List Knew) → Fact
log_fact places = kinds.Log (record { places = places })

abbrev pub knew : ℕ → ℕ → Knew
knew life items = record { life = life; items = items }

-- of a seat: its writes, the oldest first
abbrev pub writes_fact : List Write → Fact
writes_fact writes = kinds.Writes writes

-- of a seat: the items that its sessions knew, the oldest first
abbrev pub items_fact : List LifeItem → Fact
items_fact items = kinds.Items items

abbrev pub growing_lists : List Write → List LifeItem → List LifeStep → GrowingLists
growing_lists writes items lives = record { writes = writes; items = items; lives = lives }

abbrev pub no_lists : GrowingLists
no_lists = growing_lists [] [] []

-- what of a fact only grows: its writes, its items, or its lives
abbrev pub lists_in : Fact → GrowingLists
lists_in kinds.Nothing = no_lists
lists_in (kinds.Life steps) = growing_lists [] [] steps
lists_in (kinds.Processor processor) = no_lists
lists_in (kinds.Log log) = no_lists
lists_in (kinds.Writes writes) = growing_lists writes [] []
lists_in (kinds.Items items) = growing_lists [] items []

-- what was there stays, and what is new comes after it
abbrev pub HaveGrown : GrowingLists → GrowingLists → Type 0
HaveGrown before after = IsPrefix before.writes after.writes × IsPrefix before.items after.items × IsPrefix before.lives after.lives

-- the longer of two, of each list
abbrev pub longer_lists : GrowingLists → GrowingLists → GrowingLists
longer_lists xs ys = growing_lists (longer xs.writes ys.writes) (longer xs.items ys.items) (longer xs.lives ys.lives)

-- a fact may follow another: no write, no item and no life is lost
abbrev pub Follows : Fact → Fact → Type 0
Follows before after = HaveGrown (lists_in before) (lists_in after)
