-- What is told of a list, one thing longer.
use Rattle.std.proofs.Common.{◌≡◌, ℕ, zero, suc, ◌+◌, ◌<◌, ◌≤◌, get_or, take, Bool, true, false, cond, List, [], ◌∷◌, ◌++◌}
use Rattle.std.proofs.Common.{length, filter, append_assoc, refl, sym, ap, ◌∙◌, arith}
use Rattle.std.proofs.lemmas.List.{append-nil, map-append, take_more}
use Rattle.std.proofs.lemmas.Grind.{flat_map-append}
use Rattle.dt_aggstore.specs.History as store
use Rattle.dt_buffer.specs.History as buffer
use Rattle.dt_alone.specs.Happened.{ProcessorTold, all_to, comes_to, counted_on, given_to, gives_to, is_counted_on, is_draw_failed}
use Rattle.dt_alone.specs.Happened.{is_fault_on, is_record_dropped_on, is_variable_dropped_on, left_count, only_attempts}
use Rattle.dt_alone.specs.Happened.{told_both, told_on}
use Rattle.dt_alone.specs.declared.happened.StatusCount.{StatusCount}
use Rattle.dt_alone.specs.declared.happened.Happened.{Happened}

-- what is told is its six parts
abbrev pub told_of : List buffer.BufferEvent → ℕ → List store.Event → ℕ → ℕ → ℕ → ProcessorTold
told_of came failures given variables records draws = record {
  came = came;
  failures = failures;
  given = given;
  variables_dropped = variables;
  records_dropped = records;
  draws_failed = draws;
}

pub same_told : (a b : ProcessorTold) → a.came ≡ b.came → a.failures ≡ b.failures → a.given ≡ b.given
    → a.variables_dropped ≡ b.variables_dropped → a.records_dropped ≡ b.records_dropped → a.draws_failed ≡ b.draws_failed → a ≡ b
same_told a b came failures given variables records draws =
    ap (λ x. told_of x a.failures a.given a.variables_dropped a.records_dropped a.draws_failed) came
    ∙ ap (λ x. told_of b.came x a.given a.variables_dropped a.records_dropped a.draws_failed) failures
    ∙ ap (λ x. told_of b.came b.failures x a.variables_dropped a.records_dropped a.draws_failed) given
    ∙ ap (λ x. told_of b.came b.failures b.given x a.records_dropped a.draws_failed) variables
    ∙ ap (λ x. told_of b.came b.failures b.given b.variables_dropped x a.draws_failed) records
    ∙ ap (λ x. told_of b.came b.failures b.given b.variables_dropped b.records_dropped x) draws

-- nothing
abbrev pub told_nothing : ProcessorTold
told_nothing = told_of [] 0 [] 0 0 0

pub both_assoc : (a b c : ProcessorTold) → told_both (told_both a b) c ≡ told_both a (told_both b c)
both_assoc a b c =
    same_told (told_both (told_both a b) c) (told_both a (told_both b c))
    (append_assoc a.came b.came c.came) (omega arith) (append_assoc a.given b.given c.given) (omega arith) (omega arith)
    (omega arith)

pub both_nothing : (a : ProcessorTold) → told_both a told_nothing ≡ a
both_nothing a =
    same_told (told_both a told_nothing) a (append-nil a.came) (omega arith) (append-nil a.given) (omega arith) (omega arith)
    (omega arith)

counted_more : {X : Type 0} (p : X → Bool) (xs : List X) (x : X)
    → length (filter p (xs ++ x ∷ [])) ≡ length (filter p xs) + length (filter p (x ∷ []))
counted_more p [] x = omega arith
counted_more p (y ∷ xs) x = one (p y) (counted_more p xs x)
  where
    one : (b : Bool) → length (filter p (xs ++ x ∷ [])) ≡ length (filter p xs) + length (filter p (x ∷ []))
        → length (cond b (y ∷ filter p (xs ++ x ∷ [])) (filter p (xs ++ x ∷ [])))
        ≡ length (cond b (y ∷ filter p xs) (filter p xs)) + length (filter p (x ∷ []))
    one true e = omega (arith, e)
    one false e = e

pub counted_one : {X : Type 0} (p : X → Bool) (x : X) → length (filter p (x ∷ [])) ≡ cond (p x) 1 0
counted_one p x = one (p x)
  where
    one : (b : Bool) → length (cond b (x ∷ []) []) ≡ cond b 1 0
    one true = refl
    one false = refl

-- what one thing tells
abbrev pub told_one : ℕ → Happened → ProcessorTold
told_one cpu x = told_of (comes_to cpu x) (cond (is_fault_on cpu x) 1 0) (gives_to cpu x)
    (cond (is_variable_dropped_on cpu x) 1 0) (cond (is_record_dropped_on cpu x) 1 0) (cond (is_draw_failed x) 1 0)

pub told_more : (cpu : ℕ) (happened : List Happened) (x : Happened)
    → told_on cpu (happened ++ x ∷ []) ≡ told_both (told_on cpu happened) (told_one cpu x)
told_more cpu happened x =
    let count : (p : Happened → Bool) → length (filter p (happened ++ x ∷ []))
    ≡ length (filter p happened) + cond (p x) 1 0 =
    λ p. counted_more p happened x ∙ ap (λ n. length (filter p happened) + n) (counted_one p x) in
    same_told (told_on cpu (happened ++ x ∷ [])) (told_both (told_on cpu happened) (told_one cpu x))
    (flat_map-append (comes_to cpu) happened (x ∷ [])
    ∙ ap (λ xs. all_to cpu happened ++ xs) (append-nil (comes_to cpu x)))
    (count (is_fault_on cpu))
    (flat_map-append (gives_to cpu) happened (x ∷ [])
    ∙ ap (λ xs. given_to cpu happened ++ xs) (append-nil (gives_to cpu x)))
    (count (is_variable_dropped_on cpu)) (count (is_record_dropped_on cpu)) (count is_draw_failed)

-- some attempts, and then others
pub attempts_both : (in_end : Bool) (xs ys : List (List ℕ))
    → told_both (only_attempts in_end xs) (only_attempts in_end ys) ≡ only_attempts in_end (xs ++ ys)
attempts_both in_end xs ys =
    same_told (told_both (only_attempts in_end xs) (only_attempts in_end ys)) (only_attempts in_end (xs ++ ys))
    (sym (map-append (λ bytes. buffer.attempt bytes in_end) xs ys)) refl refl refl refl refl

-- what was left, one thing more
pub left_more : (happened : List Happened) (x : Happened)
    → left_count (happened ++ x ∷ []) ≡ left_count happened + left_count (x ∷ [])
left_more happened x = counted_more _ happened x

-- what is counted, one thing more
pub counts_more : (what : StatusCount) (cpu : ℕ) (hs : List Happened) (i : ℕ) (x : Happened) → i < length hs → x ≡ get_or hs i x
    → counted_on what cpu (take (i + 1) hs) ≡ counted_on what cpu (take i hs) + cond (is_counted_on what cpu x) 1 0
counts_more what cpu hs i x inside at =
    ap (counted_on what cpu) (take_more hs i x inside ∙ ap (λ y. take i hs ++ y ∷ []) (sym at))
    ∙ counted_more (is_counted_on what cpu) (take i hs) x
    ∙ ap (λ n. counted_on what cpu (take i hs) + n) (counted_one (is_counted_on what cpu) x)

pub count_more : (p : Happened → Bool) (hs : List Happened) (i : ℕ) (x : Happened) → i < length hs → x ≡ get_or hs i x
    → length (filter p (take (i + 1) hs)) ≡ length (filter p (take i hs)) + cond (p x) 1 0
count_more p hs i x inside at =
    ap (λ xs. length (filter p xs)) (take_more hs i x inside ∙ ap (λ y. take i hs ++ y ∷ []) (sym at))
    ∙ counted_more p (take i hs) x
    ∙ ap (λ n. length (filter p (take i hs)) + n) (counted_one p x)

-- a beginning has no more of them than all have
count_first : {X : Type 0} (p : X → Bool) (x : X) (xs ys : List X) → length (filter p xs) ≤ length (filter p ys)
    → length (filter p (x ∷ xs)) ≤ length (filter p (x ∷ ys))
count_first p x xs ys h = one (p x)
  where
    one : (t : Bool) → length (cond t (x ∷ filter p xs) (filter p xs)) ≤ length (cond t (x ∷ filter p ys) (filter p ys))
    one true = omega (arith, h)
    one false = h

pub count_within : {X : Type 0} (p : X → Bool) (xs : List X) (n : ℕ) → length (filter p (take n xs)) ≤ length (filter p xs)
count_within p [] zero = omega arith
count_within p [] (suc n) = omega arith
count_within p (x ∷ xs) zero = omega arith
count_within p (x ∷ xs) (suc n) = count_first p x (take n xs) xs (count_within p xs n)

pub count_all : {X : Type 0} (p : X → Bool) (xs : List X) → length (filter p xs) ≤ length xs
count_all p [] = omega arith
count_all p (x ∷ xs) = one (p x) (count_all p xs)
  where
    one : (b : Bool) → length (filter p xs) ≤ length xs → length (cond b (x ∷ filter p xs) (filter p xs)) ≤ length (x ∷ xs)
    one true e = omega (arith, e)
    one false e = omega (arith, e)
