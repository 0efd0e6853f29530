-- Shares and rows while a table is made.
use Rattle.std.specs.Prelude.{◌≡◌, ◌≢◌, ◌↔◌, ℕ, ℤ, Option, None, Some, Vec, cond, List, [], ◌∷◌, ◌++◌, map, filter, Contains, FitsSigned, IsPermutation}
use Rattle.std.specs.Global.{Global}
use Rattle.std.specs.Int.{w64}
use Rattle.std.specs.List.{AllByRecursion, AllZip, flat_map}
use Rattle.dt_aggfn.specs.declared.function.AggFn.{AggFn}
use Rattle.dt_aggfn.specs.Answers.{answer_of_bag}
use Rattle.dt_aggfn.specs.Cells.{cell_of, IsBag}
use Rattle.dt_aggstore.specs.Keys.{same_key, IsBelow}
use Rattle.dt_aggstore.specs.Table.{IsRising, RowForm}
use Rattle.dt_aggstore.specs.EntryNames.{form_of_row}
use Rattle.dt_aggstore.specs.Shares.{ShareForm}
use Rattle.dt_aggstore.specs.declared.key.KeyPart.{KeyPart}
use Rattle.dt_aggstore.specs.declared.joining.Joined.{Joined}
use Rattle.dt_aggstore.specs.declared.row.Row.{Row}

abbrev pub shared_key : ShareForm → List KeyPart
shared_key share = share.key

abbrev pub cell_shared : ShareForm → List ℕ
cell_shared share = share.cell

abbrev pub keys_of : List ShareForm → List (List KeyPart)
keys_of shares = map shared_key shares

-- the cell of all values that were joined: the first share's where there is no other
abbrev pub cell_with : Option (Vec ℕ Global) → List ℕ → List ℕ
cell_with None first = first
cell_with (Some cell) first = cell.items

-- what shares that were joined hold together: the key of the first, and the cell of all values, where this tells what a share holds
abbrev pub joined_told : {S : Type 0} → (S → ShareForm) → Joined S → ShareForm
joined_told told joined = record {
  key = shared_key (told joined.share.now);
  cell = cell_with joined.more (cell_shared (told joined.share.now));
}

-- Rows have been joined from bags: they rise by key, the keys whose bag has a value have one, and each has its bag's
-- cell.
pub record AreJoined (function : AggFn) (bags : List KeyPart → List ℤ) (rows : List ShareForm) : Type 0 where
  pub rising : IsRising (keys_of rows)
  pub has : (key : List KeyPart) → Contains (keys_of rows) key ↔ (bags key ≢ [])
  pub cells : AllByRecursion (λ row. cell_shared row ≡ cell_of function (bags (shared_key row))) rows
  pub words : (key : List KeyPart) → AllByRecursion (λ z. FitsSigned w64 z) (bags key)

-- the bags with one more for a key
abbrev pub joined_at : List KeyPart → List ℤ → (List KeyPart → List ℤ) → List KeyPart → List ℤ
joined_at key bag bags other = cond (same_key key other) (bags other ++ bag) (bags other)

-- no key comes after this one
abbrev pub NoneAfter : List KeyPart → List (List KeyPart) → Type 0
NoneAfter key keys = AllByRecursion (λ other. IsBelow key other → ⊥) keys

-- Shares make a bag: each has the cell of a bag, and those bags, joined in order, are it.
pub record MakeBag (function : AggFn) (shares : List ShareForm) (bag : List ℤ) : Type 0 where
  pub parts : List (List ℤ)
  pub cells : AllZip (λ share part. IsBag part × (cell_shared share ≡ cell_of function part)) shares parts
  pub joined : bag ≡ flat_map (λ part. part) parts

-- Shares are of bags: those of each key make its bag.
abbrev pub AreShares : AggFn → (List KeyPart → List ℤ) → List ShareForm → Type 0
AreShares function bags shares =
    (key : List KeyPart) → MakeBag function (filter (λ share. same_key (shared_key share) key) shares) (bags key)

-- Shares are of bags whose values may come in another order.
pub record AreSharesInSomeOrder (function : AggFn) (bags : List KeyPart → List ℤ) (shares : List ShareForm) : Type 0 where
  pub others : List KeyPart → List ℤ
  pub same : (key : List KeyPart) → IsPermutation (bags key) (others key)
  pub are : AreShares function others shares

-- A row is that of a joined one: it has its key, and the answer of the bag whose cell that has.
abbrev pub IsAnswerRow : AggFn → ShareForm → Row → Type 0
IsAnswerRow function joined row =
    (bag : List ℤ) → IsBag bag → cell_shared joined ≡ cell_of function bag
    → form_of_row row ≡ record { key = shared_key joined; value = answer_of_bag function bag }

-- Rows are being joined from bags: all but the last have their rows in the table.
pub record AreUnderWay (function : AggFn) (bags : List KeyPart → List ℤ) (last : ShareForm) (rows : List Row) : Type 0 where
  pub done : List ShareForm
  pub joined : AreJoined function bags (done ++ last ∷ [])
  pub made : AllZip (IsAnswerRow function) done rows

-- Rows are those of joined ones.
pub record AreRowsOf (function : AggFn) (bags : List KeyPart → List ℤ) (rows : List Row) : Type 0 where
  pub done : List ShareForm
  pub joined : AreJoined function bags done
  pub made : AllZip (IsAnswerRow function) done rows

-- Rows of a table are made of joined ones: each has its key, and the answer of its bag.
abbrev pub MakesRows : AggFn → (List KeyPart → List ℤ) → List ShareForm → List RowForm → Type 0
MakesRows function bags joined rows =
    AllZip (λ row form. (form.key ≡ shared_key row) × (form.value ≡ answer_of_bag function (bags (shared_key row)))) joined rows
