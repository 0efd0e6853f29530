-- Which row of an `lquantize` counts a value.
use Rattle.std.proofs.Common.{◌≡◌, ℕ, zero, suc, ◌+◌, ◌-◌, ◌*◌, ◌/◌, ◌%◌, ◌^◌, ◌<◌, ◌≤◌, true, false, eqb, ltb}
use Rattle.std.proofs.Common.{leb, ◌&&◌, List, [], ◌∷◌, ◌++◌, length, get_or, map, refl, sym, ap, subst, ◌∙◌, ⊎_elim}
use Rattle.std.proofs.Common.{arith, ℤ, pos, negsuc, ◌+ℤ◌, ◌-ℤ◌, Some, None}
use Rattle.std.proofs.Math.Nat.{mul-le-mul_right}
use Rattle.std.specs.Prelude.{int_lt, int_le, unsigned_abs, FitsSigned}
use Rattle.std.specs.Int.{w64, cast_signed, cast_unsigned}
use Rattle.std.specs.List.{range_with_len}
use Rattle.std.proofs.lemmas.Int.{ints, to_z-of_z}
use Rattle.std.proofs.lemmas.Bool.{cases_lt, cases_eq, eq-eqb, ne_eqb, lt-ltb, le-ltb, le-leb, lt-leb}
use Rattle.dt_aggfn.specs.declared.levels.Bounds.{Bounds}
use Rattle.dt_aggfn.specs.Rows.{CountingRow, name_at, level_from, level_row, below_row, upper_row, levels_of, lquantize_rows}
use Rattle.dt_aggfn.specs.Rows.{IsRowOf}
use Rattle.dt_aggfn.specs.laws.Levels.{step_of, step_is, step_some, from_is, upper_is, upper_from, level_fits}
use Rattle.dt_aggfn.proofs.RowLemmas.{each_part, parted, named, length_parts, first_part, middle_part}

-- comparisons above the lower bound
lt_above : (l : ℤ) (x y : ℕ) → int_lt (l +ℤ pos x) (l +ℤ pos y) ≡ ltb x y
lt_above l x y =
    ⊎_elim (λ lt. (let h : int_lt (l +ℤ pos x) (l +ℤ pos y) ≡ true = grind (arith, ints) in h) ∙ sym (lt-ltb x y lt))
    (λ ge. (let h : int_lt (l +ℤ pos x) (l +ℤ pos y) ≡ false = grind (arith, ints) in h) ∙ sym (le-ltb x y ge))
    (cases_lt x y)

le_above : (l : ℤ) (x y : ℕ) → int_le (l +ℤ pos x) (l +ℤ pos y) ≡ leb x y
le_above l x y =
    ⊎_elim
    (λ lt. (let h : int_le (l +ℤ pos x) (l +ℤ pos y) ≡ false = grind (arith, ints) in h) ∙ sym (lt-leb x y lt))
    (λ ge. (let h : int_le (l +ℤ pos x) (l +ℤ pos y) ≡ true = grind (arith, ints) in h) ∙ sym (le-leb x y ge))
    (cases_lt y x)

-- the level in which a number lies
counted_by_level : (s a k : ℕ) → 0 < s → (leb (k * s) a && ltb a ((k + 1) * s)) ≡ eqb k (a / s)
counted_by_level s a k some =
    ⊎_elim (λ lt.
    let m : (k + 1) * s ≤ a / s * s = mul-le-mul_right s (let h : k + 1 ≤ a / s = omega arith in h) in
    let x : leb (k * s) a ≡ true = le-leb (k * s) a (omega arith) in
    let y : ltb a ((k + 1) * s) ≡ false = le-ltb a ((k + 1) * s) (omega arith) in
    let w : eqb k (a / s) ≡ false = ne_eqb k (a / s) (omega arith) in
    rw (x, y, w) refl)
    (λ (ge : a / s ≤ k). ⊎_elim (λ same.
    let x : leb (k * s) a ≡ true = le-leb (k * s) a (rw same (omega arith)) in
    let y : ltb a ((k + 1) * s) ≡ true = lt-ltb a ((k + 1) * s) (rw same (omega arith)) in
    let w : eqb k (a / s) ≡ true = eq-eqb k (a / s) same in
    rw (x, y, w) refl)
    (λ other.
    let m : (a / s + 1) * s ≤ k * s = mul-le-mul_right s (let h : a / s + 1 ≤ k = omega arith in h) in
    let x : leb (k * s) a ≡ false = lt-leb (k * s) a (omega arith) in
    let w : eqb k (a / s) ≡ false = ne_eqb k (a / s) other in
    rw (x, w) refl)
    (cases_eq k (a / s)))
    (cases_lt k (a / s))

-- a level's test of a value above the lower bound
level_at : (bounds : Bounds) (a k : ℕ)
    → (level_row bounds k).counts (bounds.lower +ℤ pos a) ≡ eqb k (a / step_of bounds)
level_at bounds a k =
    let s = step_of bounds in
    ap (λ z. int_le z (bounds.lower +ℤ pos a) && int_lt (bounds.lower +ℤ pos a) (level_from bounds (k + 1)))
    (from_is bounds k)
    ∙ ap (λ z. int_le (bounds.lower +ℤ pos (k * s)) (bounds.lower +ℤ pos a) && int_lt (bounds.lower +ℤ pos a) z)
    (from_is bounds (k + 1))
    ∙ ap (λ b. b && int_lt (bounds.lower +ℤ pos a) (bounds.lower +ℤ pos ((k + 1) * s)))
    (le_above bounds.lower (k * s) a)
    ∙ ap (λ b. leb (k * s) a && b) (lt_above bounds.lower a ((k + 1) * s))
    ∙ counted_by_level s a k (step_some bounds)

level_below : (bounds : Bounds) (z : ℤ) (k : ℕ) → int_lt z bounds.lower ≡ true
    → (level_row bounds k).counts z ≡ false
level_below bounds z k h =
    ap (λ y. int_le y z && int_lt z (level_from bounds (k + 1))) (from_is bounds k)
    ∙ (let l : int_le (bounds.lower +ℤ pos (k * step_of bounds)) z ≡ false = grind (arith, ints) in rw l refl)

upper_at : (bounds : Bounds) (a : ℕ)
    → (upper_row bounds).counts (bounds.lower +ℤ pos a) ≡ leb (levels_of bounds * step_of bounds) a
upper_at bounds a =
    ap (λ z. int_le z (bounds.lower +ℤ pos a)) (upper_is bounds)
    ∙ le_above bounds.lower (levels_of bounds * step_of bounds) a

below_at : (bounds : Bounds) (a : ℕ) → (below_row bounds).counts (bounds.lower +ℤ pos a) ≡ false
below_at bounds a = grind (arith, ints)

-- a row in front of the others
front_only : (row : CountingRow) (rows : List CountingRow) (z : ℤ) → row.counts z ≡ true
    → ((k : ℕ) (d : CountingRow) → k < length rows → (get_or rows k d).counts z ≡ false)
    → (k : ℕ) (d : CountingRow) → k < length (row ∷ rows) → (get_or (row ∷ rows) k d).counts z ≡ eqb k 0
front_only row rows z h none zero d l = h
front_only row rows z h none (suc k) d l = none k d (omega arith) ∙ sym (ne_eqb (suc k) 0 (omega arith))

front : (row : CountingRow) (rows : List CountingRow) (z : ℤ) → row.counts z ≡ true
    → ((k : ℕ) (d : CountingRow) → k < length rows → (get_or rows k d).counts z ≡ false) → IsRowOf (row ∷ rows) z 0
front row rows z h none = record { within = omega arith; only = front_only row rows z h none }

same_test : (k i : ℕ) → eqb k i ≡ eqb (suc k) (suc i)
same_test k i =
    ⊎_elim (λ e. eq-eqb k i e ∙ sym (eq-eqb (suc k) (suc i) (ap suc e)))
    (λ n. ne_eqb k i n ∙ sym (ne_eqb (suc k) (suc i) (λ e. n (omega arith)))) (cases_eq k i)

behind_only : (row : CountingRow) (rows : List CountingRow) (z : ℤ) (index : ℕ) → row.counts z ≡ false → IsRowOf rows z index
    → (k : ℕ) (d : CountingRow) → k < length (row ∷ rows) → (get_or (row ∷ rows) k d).counts z ≡ eqb k (suc index)
behind_only row rows z index h of zero d l = h ∙ sym (ne_eqb 0 (suc index) (omega arith))
behind_only row rows z index h of (suc k) d l = of.only k d (omega arith) ∙ same_test k index

behind : (row : CountingRow) (rows : List CountingRow) (z : ℤ) (index : ℕ) → row.counts z ≡ false → IsRowOf rows z index
    → IsRowOf (row ∷ rows) z (suc index)
behind row rows z index h of = record {
  within = let l : index < length rows = of.within in omega arith;
  only = behind_only row rows z index h of;
}

-- a value below all levels
pub value_below : (bounds : Bounds) (z : ℤ) → int_lt z bounds.lower ≡ true → IsRowOf (lquantize_rows bounds) z 0
unfolding lquantize_rows
value_below bounds z below =
    let w = upper_is bounds in
    let past : int_le bounds.upper z ≡ false = grind (arith, ints) in
    front (below_row bounds)
    (map (level_row bounds) (range_with_len 0 (levels_of bounds)) ++ upper_row bounds ∷ []) z below
    (each_part (λ k row. row.counts z ≡ false) (level_row bounds) (level_row bounds) (upper_row bounds)
    (levels_of bounds) 0
    (λ k l. level_below bounds z k below) past (λ k l. absurd (omega arith)))

-- a value from the lower bound on, by how far above it is
above : (bounds : Bounds) (a index : ℕ)
    → IsRowOf (map (level_row bounds) (range_with_len 0 (levels_of bounds)) ++ upper_row bounds ∷ [])
    (bounds.lower +ℤ pos a) index → IsRowOf (lquantize_rows bounds) (bounds.lower +ℤ pos a) (suc index)
unfolding lquantize_rows
above bounds a index of =
    behind (below_row bounds) (map (level_row bounds) (range_with_len 0 (levels_of bounds)) ++ upper_row bounds ∷ [])
    (bounds.lower +ℤ pos a) index (below_at bounds a) of

-- quotients below a bound, and from it on
quotient_below : (s a n : ℕ) → 0 < s → a < n * s → a / s < n
quotient_below s a n some h =
    ⊎_elim (λ lt. lt)
    (λ (ge : n ≤ a / s). absurd (let m : n * s ≤ a / s * s = mul-le-mul_right s ge in omega arith))
    (cases_lt (a / s) n)

quotient_from : (s a n : ℕ) → 0 < s → n * s ≤ a → n ≤ a / s
quotient_from s a n some h =
    ⊎_elim (λ (lt : a / s < n). absurd (
    let m : (a / s + 1) * s ≤ n * s = mul-le-mul_right s (let l : a / s + 1 ≤ n = omega arith in l) in omega arith))
    (λ ge. ge) (cases_lt (a / s) n)

within : (bounds : Bounds) (a : ℕ) → a < levels_of bounds * step_of bounds
    → IsRowOf (lquantize_rows bounds) (bounds.lower +ℤ pos a) (suc (a / step_of bounds))
within bounds a h =
    let s : 0 < step_of bounds = step_some bounds in
    let l : a / step_of bounds < levels_of bounds = quotient_below (step_of bounds) a (levels_of bounds) s h in
    above bounds a (a / step_of bounds)
    (parted (level_row bounds) (level_row bounds) (upper_row bounds) (levels_of bounds) 0 (bounds.lower +ℤ pos a)
    (a / step_of bounds)
    (λ k l. level_at bounds a k)
    (upper_at bounds a ∙ lt-leb (levels_of bounds * step_of bounds) a h
    ∙ sym (ne_eqb (levels_of bounds) (a / step_of bounds) (omega arith)))
    (λ k l. absurd (omega arith)) (omega arith))

from_upper : (bounds : Bounds) (a : ℕ) → levels_of bounds * step_of bounds ≤ a
    → IsRowOf (lquantize_rows bounds) (bounds.lower +ℤ pos a) (suc (levels_of bounds))
from_upper bounds a h =
    let s : 0 < step_of bounds = step_some bounds in
    let l : levels_of bounds ≤ a / step_of bounds = quotient_from (step_of bounds) a (levels_of bounds) s h in
    above bounds a (levels_of bounds)
    (parted (level_row bounds) (level_row bounds) (upper_row bounds) (levels_of bounds) 0 (bounds.lower +ℤ pos a)
    (levels_of bounds)
    (λ k lt. level_at bounds a k ∙ ne_eqb k (a / step_of bounds) (omega arith)
    ∙ sym (ne_eqb k (levels_of bounds) (omega arith)))
    (upper_at bounds a ∙ le-leb (levels_of bounds * step_of bounds) a h
    ∙ sym (eq-eqb (levels_of bounds) (levels_of bounds) refl))
    (λ k lt. absurd (omega arith)) (omega arith))

-- a value is so far above the lower bound
above_lower : (bounds : Bounds) (z : ℤ) → int_lt z bounds.lower ≡ false
    → bounds.lower +ℤ pos (unsigned_abs (z -ℤ bounds.lower)) ≡ z
above_lower bounds z h = back bounds.lower z (z -ℤ bounds.lower) refl h
  where
    back : (l z d : ℤ) → d ≡ z -ℤ l → int_lt z l ≡ false → l +ℤ pos (unsigned_abs d) ≡ z
    back l z (pos d) e h = omega (arith, ints)
    back l z (negsuc d) e h = absurd (grind (arith, ints))

-- a value in the levels
pub value_within : (bounds : Bounds) (z : ℤ) → int_lt z bounds.lower ≡ false → int_lt z bounds.upper ≡ true
    → IsRowOf (lquantize_rows bounds) z (1 + unsigned_abs (z -ℤ bounds.lower) / unsigned_abs bounds.step)
value_within bounds z low high =
    let a = unsigned_abs (z -ℤ bounds.lower) in
    let e : bounds.lower +ℤ pos a ≡ z = above_lower bounds z low in
    let u = upper_is bounds in
    let h : a < levels_of bounds * step_of bounds = grind (arith, ints) in
    let P : ℤ → Type 0 = λ v. IsRowOf (lquantize_rows bounds) v (1 + a / step_of bounds) in
    let Q : ℕ → Type 0 = λ i. IsRowOf (lquantize_rows bounds) (bounds.lower +ℤ pos a) i in
    let s : suc (a / step_of bounds) ≡ 1 + a / step_of bounds = omega arith in
    subst P e (subst Q s (within bounds a h))

-- a value from the upper bound on
pub value_from_upper : (bounds : Bounds) (z : ℤ) → int_lt z bounds.lower ≡ false → int_lt z bounds.upper ≡ false
    → IsRowOf (lquantize_rows bounds) z (levels_of bounds + 1)
value_from_upper bounds z low high =
    let a = unsigned_abs (z -ℤ bounds.lower) in
    let e : bounds.lower +ℤ pos a ≡ z = above_lower bounds z low in
    let u = upper_is bounds in
    let h : levels_of bounds * step_of bounds ≤ a = grind (arith, ints) in
    let P : ℤ → Type 0 = λ v. IsRowOf (lquantize_rows bounds) v (levels_of bounds + 1) in
    let Q : ℕ → Type 0 = λ i. IsRowOf (lquantize_rows bounds) (bounds.lower +ℤ pos a) i in
    let s : suc (levels_of bounds) ≡ levels_of bounds + 1 = omega arith in
    subst P e (subst Q s (from_upper bounds a h))

-- ---- names

pub length_lquantize_rows : (bounds : Bounds) → length (lquantize_rows bounds) ≡ levels_of bounds + 2
unfolding lquantize_rows
length_lquantize_rows bounds =
    let l = length_parts (level_row bounds) (level_row bounds) (upper_row bounds) (levels_of bounds) 0 in
    omega (arith, l)

pub name_below : (bounds : Bounds) → name_at (lquantize_rows bounds) 0 ≡ None
unfolding lquantize_rows
name_below bounds = refl

later_name : (row : CountingRow) (rows : List CountingRow) (k : ℕ) → name_at (row ∷ rows) (suc k) ≡ name_at rows k
later_name row rows k = refl

-- the name of a level, and that of the last row, which is where one level more would begin
pub name_above : (bounds : Bounds) (k : ℕ) → k < levels_of bounds + 1
    → name_at (lquantize_rows bounds) (suc k) ≡ Some (level_from bounds k)
unfolding lquantize_rows
name_above bounds k h =
    let rows : List CountingRow = map (level_row bounds) (range_with_len 0 (levels_of bounds)) ++ upper_row bounds ∷ [] in
    let l : length rows ≡ levels_of bounds + (1 + 0) =
    length_parts (level_row bounds) (level_row bounds) (upper_row bounds) (levels_of bounds) 0 in
    ⊎_elim (λ (lt : k < levels_of bounds).
    named rows (level_row bounds k) k (omega arith)
    (λ d. first_part (level_row bounds) (level_row bounds) (upper_row bounds) (levels_of bounds) 0 k d lt))
    (λ (ge : levels_of bounds ≤ k).
    let e : levels_of bounds ≡ k = omega arith in
    let P : ℕ → Type 0 = λ i. name_at rows i ≡ Some (level_from bounds i) in
    subst P e (named rows (upper_row bounds) (levels_of bounds) (omega arith)
    (λ d. middle_part (level_row bounds) (level_row bounds) (upper_row bounds) (levels_of bounds) 0 d)
    ∙ ap (λ (z : ℤ). Some z) (upper_from bounds)))
    (cases_lt k (levels_of bounds))

-- in 64 bits
bits_moved : (l a : ℤ) (m n : ℕ) → FitsSigned w64 l → FitsSigned w64 a → a ≡ l +ℤ pos m → n ≡ m
    → (cast_unsigned w64 l + n % 2 ^ 64) % 2 ^ 64 ≡ cast_unsigned w64 a
bits_moved (pos l) (pos a) m n f g e same = let x = f.sfits in let y = g.sfits in omega (arith, ints)
bits_moved (pos l) (negsuc a) m n f g e same = cc
bits_moved (negsuc l) (pos a) m n f g e same =
    let x = f.sfits in let y = g.sfits in let k : m ≡ a + suc l = omega (arith, ints) in omega arith
bits_moved (negsuc l) (negsuc a) m n f g e same =
    let x = f.sfits in let y = g.sfits in let k : m + a ≡ l = omega (arith, ints) in omega arith

moved : (l a : ℤ) (m n : ℕ) → FitsSigned w64 l → FitsSigned w64 a → a ≡ l +ℤ pos m → n ≡ m
    → cast_signed w64 ((cast_unsigned w64 l + n % 2 ^ 64) % 2 ^ 64) ≡ a
moved l a m n f g e same = ap (cast_signed w64) (bits_moved l a m n f g e same) ∙ to_z-of_z w64 a g

-- what the code makes of a level's place is where it begins
pub level_in_bits : (bounds : Bounds) (k : ℕ) → k ≤ levels_of bounds → FitsSigned w64 bounds.lower → FitsSigned w64 bounds.upper
    → cast_signed w64 ((cast_unsigned w64 bounds.lower + (k * cast_unsigned w64 bounds.step) % 2 ^ 64) % 2 ^ 64)
    ≡ level_from bounds k
level_in_bits bounds k h f g =
    let s : cast_unsigned w64 bounds.step ≡ step_of bounds = ap (cast_unsigned w64) (step_is bounds) in
    moved bounds.lower (level_from bounds k) (k * step_of bounds) (k * cast_unsigned w64 bounds.step) f
    (level_fits bounds k h f g) (from_is bounds k) (ap (λ n. k * n) s)
