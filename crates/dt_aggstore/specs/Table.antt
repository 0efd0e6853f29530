-- The table of an aggregation over the stores of all processors. Guide, Aggregations (printa).
use Rattle.std.specs.Prelude.{◌≡◌, ◌⊎◌, ◌↔◌, ℤ, Bool, List, [], ◌∷◌, ◌++◌, map, Contains}
use Rattle.std.specs.List.{AllZip, AllByRecursion}
use Rattle.dt_aggfn.specs.Answers.{AnswerForm, answer_of_bag}
use Rattle.dt_aggstore.specs.History.{Past}
use Rattle.dt_aggstore.specs.Keys.{IsBelow}
use Rattle.dt_aggstore.specs.Held.{entry_of, held_after, bag}
use Rattle.dt_aggstore.specs.Choice.{IsChoice}
use Rattle.dt_aggstore.specs.declared.key.Aggregation.{Aggregation}
use Rattle.dt_aggstore.specs.declared.key.KeyPart.{KeyPart}

-- each key comes before all later ones
abbrev pub IsRising : List (List KeyPart) → Type 0
IsRising [] = Unit {0}
IsRising (key ∷ later) = AllByRecursion (IsBelow key) later × IsRising later

module _ (aggregation : Aggregation) (key : List KeyPart) where
  -- the key's entry is held at the end of some past
  abbrev pub HeldInSome : List Past → List (List Bool) → Type 0
  HeldInSome [] choices = ⊥
  HeldInSome (past ∷ pasts) [] = ⊥
  HeldInSome (past ∷ pasts) (chosen ∷ choices) =
      Contains (held_after past.events chosen) (entry_of aggregation key) ⊎ HeldInSome pasts choices

  -- the key's bags at the ends of all pasts, joined in order
  abbrev pub joined_bag : List Past → List (List Bool) → List ℤ
  joined_bag [] choices = []
  joined_bag (past ∷ pasts) [] = []
  joined_bag (past ∷ pasts) (chosen ∷ choices) = bag past.events chosen aggregation key ++ joined_bag pasts choices

-- A row of a table: its key, and what the function makes of the key's values.
pub record RowForm : Type 0 where
  pub key : List KeyPart
  pub value : AnswerForm

-- The table of an aggregation: rows in rising order of key, one for each key that is held in some store, with the
-- function of the union of its bags.
pub record IsTable (pasts : List Past) (aggregation : Aggregation) (rows : List RowForm) : Type 0 where
  pub choices : List (List Bool)
  pub choice : AllZip IsChoice pasts choices
  pub rising : IsRising (map (λ row. row.key) rows)
  pub held : (key : List KeyPart) →
      Contains (map (λ row. row.key) rows) key ↔ HeldInSome aggregation key pasts choices
  pub answers : AllByRecursion
      (λ row. row.value ≡ answer_of_bag aggregation.function (joined_bag aggregation row.key pasts choices)) rows
