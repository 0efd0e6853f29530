-- What facts say of a seat's lives, and of what its sessions knew.
use Rattle.std.specs.Prelude.{◌≡◌, ◌≤◌, ℕ, List, []}
use Rattle.atomic_table.specs.Seated.{TableId}
use Rattle.dt_facts.specs.Facts.{items_fact, life_fact, lists_in}
use Rattle.dt_facts.specs.Handles.{HeldFact, holding}
use Rattle.dt_facts.specs.Lives.{items_of_life}
use Rattle.dt_facts.specs.declared.fact.Fact.{Fact}
use Rattle.dt_facts.specs.declared.fact.LifeItem.{LifeItem}
use Rattle.dt_facts.specs.declared.fact.LifeStep.{LifeStep}
use Rattle.dt_seat.specs.Names.{life_name}

-- the lives that a fact says
abbrev pub steps_in : Fact → List LifeStep
steps_in fact = (lists_in fact).lives

-- A seat's book or share of its lives.
abbrev pub SaysLives : TableId → (cpus seat : ℕ) → HeldFact → Type 0
SaysLives word cpus seat held = held ≡ holding word (life_name cpus seat) (life_fact (steps_in held.fact))

-- what the sessions of a seat knew: the word and the name of the fact, and the items, the oldest first
pub record KnownItems : Type 0 where
  pub word : TableId
  pub name : ℕ
  pub list : List LifeItem

abbrev pub known_items : TableId → ℕ → List LifeItem → KnownItems
known_items word name list = record { word = word; name = name; list = list }

-- the same, as a share says it
abbrev pub items_said : HeldFact → KnownItems
items_said share = known_items share.word share.name (lists_in share.fact).items

-- The book and the share, in one hand.
pub record IsKnowledge (book share : HeldFact) : Type 0 where
  pub agree : book ≡ share
  pub says : share.fact ≡ items_fact (lists_in share.fact).items

-- Nothing is known of this life, nor of a later one.
abbrev pub AreUnknownFrom : ℕ → List LifeItem → Type 0
AreUnknownFrom life list = (l : ℕ) → life ≤ l → items_of_life l list ≡ []
