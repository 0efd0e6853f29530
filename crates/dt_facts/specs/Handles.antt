-- What contracts see of the handles, and how they keep it.
use Rattle.std.specs.Prelude.{◌≡◌, ℕ, []}
use Rattle.atomic_table.specs.Seated.{TableId}
use Rattle.atomic_table.specs.declared.shared.Seat.{Seat}
use Rattle.dt_facts.specs.declared.fact.Fact.{Fact}
use Rattle.dt_facts.specs.declared.fact.GrowingLists.{GrowingLists}
use Rattle.dt_facts.specs.declared.rule.FactView.{FactView}
use Rattle.dt_facts.specs.Rule.{NoFactSlot, share, book, both, lists_begun, maker_view}

-- a share, a book or both: the word that it is of, its name, and its fact
pub record HeldFact : Type 0 where
  pub word : TableId
  pub name : ℕ
  pub fact : Fact

-- a beginning: the word that it is of, its name, and the lists
pub record BegunLists : Type 0 where
  pub word : TableId
  pub name : ℕ
  pub lists : GrowingLists

-- a maker: the word that it is of, and the next name
pub record NextName : Type 0 where
  pub word : TableId
  pub name : ℕ

abbrev pub holding : TableId → ℕ → Fact → HeldFact
holding word name fact = record { word = word; name = name; fact = fact }

abbrev pub begun : TableId → ℕ → GrowingLists → BegunLists
begun word name lists = record { word = word; name = name; lists = lists }

abbrev pub making : TableId → ℕ → NextName
making word name = record { word = word; name = name }

abbrev pub FactSeat : Type 0
FactSeat = Seat NoFactSlot FactView

abbrev pub held_seen : FactSeat → HeldFact
held_seen s = holding s.table_id s.me.0.name s.me.0.fact

abbrev pub begun_seen : FactSeat → BegunLists
begun_seen s = begun s.table_id s.me.0.name s.me.0.knows

abbrev pub maker_seen : FactSeat → NextName
maker_seen s = making s.table_id s.me.0.name

abbrev pub IsShare : FactSeat → Type 0
IsShare s = s.me ≡ (share s.me.0.name s.me.0.fact, [])

abbrev pub IsBook : FactSeat → Type 0
IsBook s = s.me ≡ (book s.me.0.name s.me.0.fact, [])

abbrev pub IsBoth : FactSeat → Type 0
IsBoth s = s.me ≡ (both s.me.0.name s.me.0.fact, [])

abbrev pub IsBeginning : FactSeat → Type 0
IsBeginning s = s.me ≡ (lists_begun s.me.0.name s.me.0.knows, [])

abbrev pub IsMaker : FactSeat → Type 0
IsMaker s = s.me ≡ (maker_view s.me.0.name, [])

-- a seat of the word, with this view
abbrev pub IsOf : TableId → FactView → FactSeat → Type 0
IsOf word view s = (s.table_id ≡ word) × (s.me ≡ (view, []))
