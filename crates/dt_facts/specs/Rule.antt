-- The rule of the word, what seats know, and what each step tells. The rule speaks of names and facts, and not of words.
use Rattle.std.specs.Prelude.{◌≡◌, ℕ, ◌+◌, ◌<◌, ◌≤◌, List, Bool, true, false}
use mathlib.Core.Option.{some}
use lib.ListN.{get_elem?}
use Rattle.atomic_table.specs.Table.{State, Step, Me}
use Rattle.dt_facts.specs.declared.fact.Fact.{Fact}
use Rattle.dt_facts.specs.declared.fact.GrowingLists.{GrowingLists}
use Rattle.dt_facts.specs.declared.rule.FactView.{FactView}
use Rattle.dt_facts.specs.Facts.{nothing, no_lists, lists_in, HaveGrown, longer_lists}

abbrev pub NoFactSlot : Type 0
NoFactSlot = Unit {0}

-- what the rule speaks of: what each name holds, at which seat its share is and at which its book, the seat of the maker, and how many names
-- were made
pub record Roll : Type 0 where
  pub held : ℕ → Fact
  pub share_at : ℕ → ℕ
  pub book_at : ℕ → ℕ
  pub maker_at : ℕ
  pub made : ℕ

abbrev pub roll_of : (ℕ → Fact) → (ℕ → ℕ) → (ℕ → ℕ) → ℕ → ℕ → Roll
roll_of held share_at book_at maker_at made = record { held = held; share_at = share_at; book_at = book_at; maker_at = maker_at; made = made }

-- A seat's view fits. A name's share is at one seat and its book at one; both hold the name's fact, what a share held as it met its book is
-- that fact, and a beginning is one of the fact's lists, as is one that it was told
pub record FitsRoll (w : Roll) (by : ℕ) (v : FactView) : Type 0 where
  pub share : v.share ≡ true → (w.share_at v.name ≡ by) × (v.fact ≡ w.held v.name) × (v.name < w.made)
  pub book : v.book ≡ true → (w.book_at v.name ≡ by) × (v.fact ≡ w.held v.name) × (v.name < w.made)
  pub met : v.met ≡ true → (v.share ≡ true) × (v.had ≡ w.held v.name)
  pub begins : v.begins ≡ true → HaveGrown v.knows (lists_in (w.held v.name)) × (v.name < w.made)
  pub told : v.begins ≡ true → HaveGrown v.told (lists_in (w.held v.name))
  pub makes : v.makes ≡ true → (w.maker_at ≡ by) × (w.made ≡ v.name)

abbrev pub EachFitsRoll : Roll → List FactView → Type 0
EachFitsRoll w views = (by : ℕ) (v : FactView) → get_elem? views by ≡ some v → FitsRoll w by v

-- the rule: each view fits, and a name that wasn't made yet holds nothing
pub record AllAgree (s : State NoFactSlot FactView) : Type 0 where
  pub roll : Roll
  pub unmade : (n : ℕ) → roll.made ≤ n → roll.held n ≡ nothing
  pub each : EachFitsRoll roll s.views

abbrev pub seat_view : ℕ → Bool → Bool → Bool → Bool → Bool → Fact → Fact → GrowingLists → GrowingLists → FactView
seat_view n share book met begins makes fact had knows told =
    record { name = n; share = share; book = book; met = met; begins = begins; makes = makes; fact = fact; had = had; knows = knows; told = told }

abbrev pub share : ℕ → Fact → FactView
share n x = seat_view n true false false false false x nothing no_lists no_lists

abbrev pub book : ℕ → Fact → FactView
book n x = seat_view n false true false false false x nothing no_lists no_lists

abbrev pub both : ℕ → Fact → FactView
both n x = seat_view n true true false false false x nothing no_lists no_lists

-- both, with what the share had held
abbrev pub both_unchecked : ℕ → Fact → Fact → FactView
both_unchecked n x y = seat_view n true true true false false x y no_lists no_lists

abbrev pub lists_begun : ℕ → GrowingLists → FactView
lists_begun n ws = seat_view n false false false true false nothing nothing ws no_lists

-- a beginning, with another that it was told
abbrev pub lists_told : ℕ → GrowingLists → GrowingLists → FactView
lists_told n ws us = seat_view n false false false true false nothing nothing ws us

-- a book with a beginning
abbrev pub book_begun : ℕ → Fact → GrowingLists → FactView
book_begun n x ws = seat_view n false true false true false x nothing ws no_lists

abbrev pub maker_view : ℕ → FactView
maker_view n = seat_view n false false false false true nothing nothing no_lists no_lists

abbrev pub no_view : FactView
no_view = seat_view 0 false false false false false nothing nothing no_lists no_lists

abbrev pub next_maker : FactView → FactView
next_maker v = maker_view (v.name + 1)

abbrev pub made_view : FactView → FactView
made_view v = both v.name nothing

abbrev pub with_share : FactView → FactView → FactView
with_share v w = both_unchecked v.name v.fact w.fact

abbrev pub without_share : FactView → FactView
without_share v = book v.name v.fact

abbrev pub share_alone : FactView → FactView
share_alone v = share v.name v.fact

abbrev pub beginning_of : FactView → FactView
beginning_of v = lists_begun v.name (lists_in v.fact)

-- the same beginning, for another seat
abbrev pub same_beginning : FactView → FactView
same_beginning v = lists_begun v.name v.knows

abbrev pub with_told : FactView → FactView → FactView
with_told v w = lists_told v.name v.knows w.knows

abbrev pub with_beginning : FactView → FactView → FactView
with_beginning v w = book_begun v.name v.fact w.knows

abbrev pub Mine : Type 0
Mine = Me NoFactSlot FactView

-- what the share had held is what the book holds
abbrev pub HasAgreed : Step NoFactSlot → Mine → ℕ → Mine → Type 0
HasAgreed s v found w = (w.1 ≡ v.1) × (w.0 ≡ both v.0.name v.0.fact) × (v.0.fact ≡ v.0.had)

abbrev pub HasGoneOn : Fact → Step NoFactSlot → Mine → ℕ → Mine → Type 0
HasGoneOn x s v found w = (w.1 ≡ v.1) × (w.0 ≡ both v.0.name x)

-- the book's lists begin with the beginning
abbrev pub HasBegun : Step NoFactSlot → Mine → ℕ → Mine → Type 0
HasBegun s v found w = (w.1 ≡ v.1) × (w.0 ≡ book v.0.name v.0.fact) × HaveGrown v.0.knows (lists_in v.0.fact)

-- the longer of the two begins with both
abbrev pub HasLearntLists : Step NoFactSlot → Mine → ℕ → Mine → Type 0
HasLearntLists s v found w =
    (w.1 ≡ v.1)
    × (w.0 ≡ lists_begun v.0.name (longer_lists v.0.knows v.0.told))
    × HaveGrown v.0.knows (longer_lists v.0.knows v.0.told)
    × HaveGrown v.0.told (longer_lists v.0.knows v.0.told)
