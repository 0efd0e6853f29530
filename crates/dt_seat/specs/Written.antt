-- What a seat wrote into the chains: its publications and withdrawals so far, one that waits for memory too. The share that lies under the seat's lock says it.
use Rattle.std.specs.Prelude.{◌≡◌, ◌≤◌, ◌+◌, ◌++◌, ◌∷◌, ◌⊎◌, ℕ, List, []}
use Rattle.atomic_table.specs.Seated.{TableId}
use mathlib.Core.List.{IsPrefix}
use Rattle.dt_chain.specs.Writes.{Write, writes_of}
use Rattle.dt_cred.specs.declared.account.Account.{Account}
use Rattle.dt_facts.specs.Facts.{lists_in, writes_fact}
use Rattle.dt_facts.specs.Handles.{HeldFact, holding}
use Rattle.dt_facts.specs.declared.fact.Fact.{Fact}
use Rattle.dt_machine.specs.Registry.{Contents}
use Rattle.dt_meeting.specs.Order.{IsInOrder}
use Rattle.dt_meeting.specs.Stages.{never, stage}
use Rattle.dt_seat.specs.Names.{book_name}
use Rattle.dt_seat.specs.Publications.{IsPublished}
use Rattle.dt_trail.specs.Items.{TrailItem}

-- the writes that a fact says
abbrev pub writes_in : Fact → List Write
writes_in fact = (lists_in fact).writes

-- The share of what a seat wrote.
abbrev pub SaysWrites : TableId → (seat : ℕ) → HeldFact → Type 0
SaysWrites word seat held = held ≡ holding word (book_name seat) (writes_fact (writes_in held.fact))

-- After a write that may have been refused for memory: it is the last of these, or they are as they were.
abbrev pub MayEndWith : Write → (old new : List Write) → Type 0
MayEndWith write old new = (new ≡ old) ⊎ (new ≡ old ++ write ∷ [])

-- These writes name no life from this one on.
abbrev pub AreUnnamedFrom : ℕ → List Write → Type 0
AreUnnamedFrom life writes = (l : ℕ) → life ≤ l → stage l writes ≡ never

-- The writes of a seat, as long as a life of it is open: they are in order for the life and its trail, and name no later life.
pub record AreWritesOf (contents : Contents) (account : Account) (life : ℕ) (trail : List TrailItem) (writes : List Write) : Type 0 where
  pub in_order : IsInOrder account contents life writes trail
  pub later : AreUnnamedFrom (life + 1) writes

-- What a seat wrote, as long as a life of it is open, by the share.
pub record HasWritten (word : TableId) (contents : Contents) (number life : ℕ) (account : Account) (trail : List TrailItem) (writes : HeldFact) : Type 0 where
  pub says : SaysWrites word number writes
  pub are : AreWritesOf contents account life trail (writes_in writes.fact)

-- What a seat wrote, as long as no life of it is open, and the next is of this number.
pub record HasNotNamed (word : TableId) (number life : ℕ) (writes : HeldFact) : Type 0 where
  pub says : SaysWrites word number writes
  pub later : AreUnnamedFrom life (writes_in writes.fact)

-- What a seat knows of its session's publication: once the `go` was accepted these writes have it, and those of the seat among them begin what it wrote.
pub record HasPublished (contents : Contents) (number life : ℕ) (account : Account) (trail : List TrailItem) (go writes : List Write) : Type 0 where
  pub there : IsPublished contents number life account trail go
  pub begins : IsPrefix (writes_of go number) writes
