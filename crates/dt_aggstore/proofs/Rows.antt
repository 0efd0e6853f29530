-- Rows of joined shares, one after another.
use Rattle.std.proofs.Common.{◌≡◌, ◌<◌, ℤ, List, [], ◌∷◌, ◌++◌, length, refl, ap, subst, arith}
use Rattle.std.specs.Prelude.{map, Contains}
use Rattle.std.specs.List.{AllByRecursion, AllZip}
use Rattle.dt_aggfn.specs.declared.function.AggFn.{AggFn}
use Rattle.dt_aggfn.specs.declared.limits.TheConstants.{BAG_LIMIT}
use Rattle.dt_aggfn.specs.Cells.{cell_of, IsBag}
use Rattle.dt_aggstore.specs.EntryNames.{form_of_row}
use Rattle.dt_aggstore.specs.Joining.{cell_shared, shared_key, keys_of, joined_at, AreJoined, AreShares, AreUnderWay, IsAnswerRow, MakesRows}
use Rattle.dt_aggstore.specs.Shares.{ShareForm}
use Rattle.dt_aggstore.specs.declared.row.Row.{Row}
use Rattle.dt_aggstore.proofs.Joins.{none_joined, joined_alike, pushed_at}
use Rattle.dt_aggstore.proofs.Rising.{Key, all_weaker, contains_here, contains_later}
use Rattle.dt_aggstore.proofs.Sharing.{at_own, bags_before, before_whole, nothing_made, shared_before}

pub zip_push : {A B : Type 0} (R : A → B → Type 0) (xs : List A) (ys : List B) (x : A) (y : B) → AllZip R xs ys → R x y
    → AllZip R (xs ++ x ∷ []) (ys ++ y ∷ [])
zip_push R [] [] x y a r = (r, tt)
zip_push R [] (z ∷ ys) x y a r = absurd a
zip_push R (z ∷ xs) [] x y a r = absurd a
zip_push R (z ∷ xs) (w ∷ ys) x y a r = (a.0, zip_push R xs ys x y a.1 r)

-- one share alone is joined
pub first_joined : (function : AggFn) (bags : Key → List ℤ) (share : ShareForm)
    → AreShares function bags (share ∷ []) → AreJoined function bags (share ∷ [])
first_joined function bags share a =
    let before = at_own function bags [] share a in
    let earlier = bags_before function bags [] share a in
    let a' = shared_before function bags [] share a in
    let j = none_joined function earlier [] refl (λ key. nothing_made function (earlier key) (a' key)) in
    joined_alike function (joined_at (shared_key share) before.last earlier) bags (share ∷ [])
    (before_whole function bags [] share a)
    (pushed_at function earlier before.last [] (shared_key share) share j tt (λ d some. absurd (omega arith)) refl
    before.cell before.own)

-- rows are being joined from bags that are the same
pub way_alike : (function : AggFn) (bags other : Key → List ℤ) (last : ShareForm) (rows : List Row)
    → ((key : Key) → bags key ≡ other key) → AreUnderWay function bags last rows → AreUnderWay function other last rows
way_alike function bags other last rows h way =
    let same : bags ≡ other = (λ i key. h key i) in subst (λ b. AreUnderWay function b last rows) same way

-- each of the rows has one of the keys
all_keys : (rows : List ShareForm) → AllByRecursion (λ row. Contains (keys_of rows) (shared_key row)) rows
all_keys [] = tt
all_keys (row ∷ rows) = (
  contains_here (shared_key row) (keys_of rows),
  all_weaker (λ r. Contains (keys_of rows) (shared_key r)) (λ r. Contains (shared_key row ∷ keys_of rows) (shared_key r))
      (λ r h. contains_later (shared_key row) (keys_of rows) (shared_key r) h) rows (all_keys rows),
)

module _ (function : AggFn) (bags : Key → List ℤ) where
  each_made : (joined : List ShareForm) (rows : List Row)
      → AllByRecursion (λ row. cell_shared row ≡ cell_of function (bags (shared_key row))) joined
      → AllByRecursion (λ row. IsBag (bags (shared_key row))) joined → AllZip (IsAnswerRow function) joined rows
      → MakesRows function bags joined (map form_of_row rows)
  each_made [] [] cells own zip = tt
  each_made [] (r ∷ rows) cells own zip = absurd zip
  each_made (j ∷ joined) [] cells own zip = absurd zip
  each_made (j ∷ joined) (r ∷ rows) cells own zip =
      let e = zip.0 (bags (shared_key j)) own.0 cells.0 in
      ((ap (λ f. f.key) e, ap (λ f. f.value) e), each_made joined rows cells.1 own.1 zip.1)

  -- rows of joined ones are made of them
  pub rows_made : (joined : List ShareForm) (rows : List Row) → AreJoined function bags joined
      → ((key : Key) → length (bags key) < BAG_LIMIT) → AllZip (IsAnswerRow function) joined rows
      → MakesRows function bags joined (map form_of_row rows)
  rows_made joined rows j few zip =
      each_made joined rows j.cells
      (all_weaker (λ row. Contains (keys_of joined) (shared_key row)) (λ row. IsBag (bags (shared_key row)))
      (λ row h. record { some = (j.has (shared_key row)).0 h; few = few (shared_key row); words = j.words (shared_key row) })
      joined (all_keys joined))
      zip
