-- The lines that a session kept, and where they stand in its trail.
use Rattle.std.proofs.Common.{◌≡◌, ◌≢◌, ◌≤◌, ◌+◌, ◌==◌, ℕ, zero, suc, Bool, true, false, cond, List, [], ◌∷◌, refl, sym, ap, ◌∙◌, subst, arith, eq-eqb, length, Option, Some, None, IfSome, IsSomeAnd}
use Rattle.std.specs.List.{slice_get}
use Rattle.dt_seat.specs.Sessions.{line_kept, lines_from}
use Rattle.dt_seat.specs.declared.line_kept.LineKept.{LineKept}
use Rattle.dt_trail.specs.Items.{TrailItem, own, whose}

some_line : (one other : LineKept) → Some one ≡ Some other → one ≡ other
some_line one other e = cc

-- at the head of a list that a test lets through, and behind one that it doesn't
module _ (place : ℕ) (x : TrailItem) (items : List TrailItem) where
  abbrev rest : List LineKept
  rest = lines_from (place + 1) items

  taken : (n : ℕ) → (whose x == 0) ≡ true → slice_get (lines_from place (x ∷ items)) n ≡ slice_get (line_kept place x ∷ rest) n
  taken n is = ap (λ (b : Bool). slice_get (cond b (line_kept place x ∷ rest) rest) n) is

  passed : (n : ℕ) → (whose x == 0) ≡ false → slice_get (lines_from place (x ∷ items)) n ≡ slice_get rest n
  passed n is = ap (λ (b : Bool). slice_get (cond b (line_kept place x ∷ rest) rest) n) is

  own_taken : (n : ℕ) → (whose x == 0) ≡ true → slice_get (own 0 (x ∷ items)) n ≡ slice_get (x ∷ own 0 items) n
  own_taken n is = ap (λ (b : Bool). slice_get (cond b (x ∷ own 0 items) (own 0 items)) n) is

  own_passed : (n : ℕ) → (whose x == 0) ≡ false → slice_get (own 0 (x ∷ items)) n ≡ slice_get (own 0 items) n
  own_passed n is = ap (λ (b : Bool). slice_get (cond b (x ∷ own 0 items) (own 0 items)) n) is

-- what a kept line is: an own item, at its place, which is none before the first
pub record IsLineAt (place : ℕ) (items : List TrailItem) (n : ℕ) (line : LineKept) : Type 0 where
  pub own_is : slice_get (own 0 items) n ≡ Some line.item
  pub low : place ≤ line.place
  pub at : (k : ℕ) → line.place ≡ place + k → slice_get items k ≡ Some line.item

line_first : (place : ℕ) (x : TrailItem) (items : List TrailItem) (line : LineKept) → (whose x == 0) ≡ true → line_kept place x ≡ line
    → IsLineAt place (x ∷ items) 0 line
line_first place x items line is e = record {
  own_is = own_taken place x items 0 is ∙ ap Some (ap (λ (l : LineKept). l.item) e);
  low = omega (arith, ap (λ (l : LineKept). l.place) e);
  at = first;
}
  where
    first : (k : ℕ) → line.place ≡ place + k → slice_get (x ∷ items) k ≡ Some line.item
    first zero at = ap Some (ap (λ (l : LineKept). l.item) e)
    first (suc k) at = absurd (omega (arith, at, ap (λ (l : LineKept). l.place) e))

line_behind : (place : ℕ) (x : TrailItem) (items : List TrailItem) (n m : ℕ) (line : LineKept)
    → slice_get (own 0 (x ∷ items)) n ≡ slice_get (own 0 items) m → IsLineAt (place + 1) items m line → IsLineAt place (x ∷ items) n line
line_behind place x items n m line same h = record {
  own_is = same ∙ h.own_is;
  low = omega (arith, h.low);
  at = behind;
}
  where
    behind : (k : ℕ) → line.place ≡ place + k → slice_get (x ∷ items) k ≡ Some line.item
    behind zero at = absurd (omega (arith, h.low, at))
    behind (suc k) at = h.at k (omega (arith, at))

pub line_at : (place : ℕ) (items : List TrailItem) (n : ℕ) (line : LineKept) → slice_get (lines_from place items) n ≡ Some line
    → IsLineAt place items n line
line_at place [] n line e = absurd (let bad : None ≡ Some line = e in cc bad)
line_at place (x ∷ items) n line e = by_test (λ m at. line_at (place + 1) items m line at) (whose x == 0) refl n e
  where
    by_test : ((m : ℕ) → slice_get (lines_from (place + 1) items) m ≡ Some line → IsLineAt (place + 1) items m line) → (b : Bool)
        → (whose x == 0) ≡ b → (n : ℕ) → slice_get (lines_from place (x ∷ items)) n ≡ Some line → IsLineAt place (x ∷ items) n line
    by_test further true is zero at =
        line_first place x items line is (some_line (line_kept place x) line (sym (taken place x items 0 is) ∙ at))
    by_test further true is (suc m) at =
        line_behind place x items (suc m) m line (own_taken place x items (suc m) is) (further m (sym (taken place x items (suc m) is) ∙ at))
    by_test further false is n at =
        line_behind place x items n n line (own_passed place x items n is) (further n (sym (passed place x items n is) ∙ at))

-- each line among the items is kept
pub line_is_kept : (place : ℕ) (items : List TrailItem) (k : ℕ) (item : TrailItem) → slice_get items k ≡ Some item → whose item ≡ 0
    → (n : ℕ) × (slice_get (lines_from place items) n ≡ Some (line_kept (place + k) item))
line_is_kept place [] k item e mine = absurd (let bad : None ≡ Some item = e in cc bad)
line_is_kept place (x ∷ items) zero item e mine =
    let same : x ≡ item = cc e in
    let is : (whose x == 0) ≡ true = eq-eqb (whose x) 0 (ap whose same ∙ mine) in (
      0,
      taken place x items 0 is
          ∙ ap (λ (p : ℕ). Some (line_kept p x)) (omega arith)
          ∙ ap (λ (y : TrailItem). Some (line_kept (place + 0) y)) same,
    )
line_is_kept place (x ∷ items) (suc k) item e mine = by_test (line_is_kept (place + 1) items k item e mine) (whose x == 0) refl
  where
    moved : line_kept ((place + 1) + k) item ≡ line_kept (place + suc k) item
    moved = ap (λ (p : ℕ). line_kept p item) (omega arith)

    by_test : ((n : ℕ) × (slice_get (lines_from (place + 1) items) n ≡ Some (line_kept ((place + 1) + k) item))) → (b : Bool) → (whose x == 0) ≡ b
        → (n : ℕ) × (slice_get (lines_from place (x ∷ items)) n ≡ Some (line_kept (place + suc k) item))
    by_test found true is = (suc (found.0), taken place x items (suc (found.0)) is ∙ found.1 ∙ ap Some moved)
    by_test found false is = (found.0, passed place x items (found.0) is ∙ found.1 ∙ ap Some moved)

-- as many lines are kept as there are
pub lines_count : (place : ℕ) (items : List TrailItem) → length (lines_from place items) ≡ length (own 0 items)
lines_count place [] = refl
lines_count place (x ∷ items) = by_test (lines_count (place + 1) items) (whose x == 0)
  where
    by_test : length (lines_from (place + 1) items) ≡ length (own 0 items) → (b : Bool)
        → length (cond b (line_kept place x ∷ lines_from (place + 1) items) (lines_from (place + 1) items)) ≡ length (cond b (x ∷ own 0 items) (own 0 items))
    by_test further true = ap suc further
    by_test further false = further

-- a line that stands at a place is the item there
pub known_line : (items : List TrailItem) (k n : ℕ) → IsSomeAnd (slice_get (lines_from 0 items) n) (λ (line : LineKept). line.place ≡ k)
    → (item : TrailItem) × (slice_get items k ≡ Some item) × (slice_get (own 0 items) n ≡ Some item)
known_line items k n has = of_line (slice_get (lines_from 0 items) n) refl has
  where
    of_line : (o : Option LineKept) → slice_get (lines_from 0 items) n ≡ o → IsSomeAnd o (λ (line : LineKept). line.place ≡ k)
        → (item : TrailItem) × (slice_get items k ≡ Some item) × (slice_get (own 0 items) n ≡ Some item)
    of_line None e at = absurd at
    of_line (Some line) e at =
        let h = line_at 0 items n line e in
        (line.item, h.at k (omega (arith, at)), h.own_is)

-- no line is missing
pub no_line_missing : (items : List TrailItem) (k : ℕ) (item : TrailItem) → slice_get items k ≡ Some item → whose item ≡ 0
    → ((n : ℕ) → IfSome (slice_get (lines_from 0 items) n) (λ (line : LineKept). line.place ≢ k)) → ⊥
no_line_missing items k item e mine none =
    let found = line_is_kept 0 items k item e mine in
    let bad : 0 + k ≢ k =
    subst (λ (o : Option LineKept). IfSome o (λ (line : LineKept). line.place ≢ k)) found.1 (none found.0) in
    bad (omega arith)
