-- Private to the proofs.
-- The lists of a state of the reading of programs are no longer than the limits.
use Rattle.std.specs.Prelude.{◌≡◌, ◌⊎◌, ℕ, ◌<◌, ◌≤◌, List, length, None}
use Rattle.dt_program.specs.Limits.{descriptions_max, statements_max, keys_max}
use Rattle.dt_program.specs.Limits.{clauses_max, tokens_max}
use Rattle.dt_lang.specs.machine.ExpressionState as expression
use Rattle.dt_lang.specs.machine.ClauseState.{PlaceForm, outside, described, listed, guarded, body, keyed, assigned, applied, within, bounding, negating, bounded, ProgramState, InsideForm, inside}
use Rattle.dt_program.specs.Clause.{ArgForm, ClauseForm}
use Rattle.dt_lang.specs.Stand.{Slot, predicate, given, key, value, assignment}

-- within a clause
pub record FitsClause (cs : List ClauseForm) (c : ClauseForm) : Type 0 where
  pub room : length cs < clauses_max
  pub described : 1 ≤ length c.descriptions
  pub few_descriptions : length c.descriptions ≤ descriptions_max
  pub few : length c.statements ≤ statements_max

-- within a statement
pub record FitsStatement (cs : List ClauseForm) (c : ClauseForm) : Type 0 where
  pub clause : FitsClause cs c
  pub room : length c.statements < statements_max

-- within an aggregation
pub record FitsTarget (cs : List ClauseForm) (c : ClauseForm) (keys : List ArgForm) : Type 0 where
  pub statement : FitsStatement cs c
  pub few : length keys ≤ keys_max

-- a further key may stand, or nothing was read for it
pub record FitsKey (cs : List ClauseForm) (c : ClauseForm) (keys : List ArgForm) (n : ℕ) (e : expression.State) :
    Type 0 where
  pub target : FitsTarget cs c keys
  pub room : (length keys < keys_max) ⊎ ((n ≡ 0) × (expression.done e ≡ None))

abbrev pub FitsSlot : List ClauseForm → ClauseForm → Slot → ℕ → expression.State → Type 0
FitsSlot cs c predicate n e = FitsClause cs c
FitsSlot cs c (given a) n e = FitsStatement cs c
FitsSlot cs c (key name keys) n e = FitsKey cs c keys n e
FitsSlot cs c (value name keys fn) n e = FitsTarget cs c keys
FitsSlot cs c (assignment name) n e = FitsStatement cs c

-- what was read for a slot may be kept
abbrev pub SlotHasRoom : List ClauseForm → ClauseForm → Slot → Type 0
SlotHasRoom cs c (key name keys) = length keys < keys_max
SlotHasRoom cs c (value name keys fn) = length keys ≤ keys_max
SlotHasRoom cs c (assignment name) = FitsStatement cs c
SlotHasRoom cs c _ = Unit {0}

-- within what is read for a slot
pub record FitsWithin (cs : List ClauseForm) (c : ClauseForm) (slot : Slot) (n : ℕ) (e : expression.State) : Type 0 where
  pub fits : FitsSlot cs c slot n e
  pub few : n ≤ tokens_max

-- within a statement, at this place
abbrev pub FitsInside : List ClauseForm → ClauseForm → InsideForm → Type 0
FitsInside cs c (keyed name keys) = FitsTarget cs c keys
FitsInside cs c (assigned name keys) = FitsTarget cs c keys
FitsInside cs c (applied name keys fn) = FitsTarget cs c keys
FitsInside cs c (bounding name keys f b) = FitsTarget cs c keys
FitsInside cs c (negating name keys f b) = FitsTarget cs c keys
FitsInside cs c (bounded name keys f b z) = FitsTarget cs c keys
FitsInside cs c _ = FitsStatement cs c

abbrev pub FitsAt : List ClauseForm → ClauseForm → PlaceForm → Type 0
FitsAt cs c outside = length cs ≤ clauses_max
FitsAt cs c described = FitsClause cs c
FitsAt cs c listed = FitsClause cs c
FitsAt cs c guarded = FitsClause cs c
FitsAt cs c (body spot) = FitsClause cs c
FitsAt cs c (inside p) = FitsInside cs c p
FitsAt cs c (within slot n e) = FitsWithin cs c slot n e

abbrev pub Fits : ProgramState → Type 0
Fits s = FitsAt s.clauses s.clause s.place
