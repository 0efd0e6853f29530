-- What a loop over a list has of what each of it gives.
use Rattle.std.proofs.Common.{◌≡◌, ℕ, zero, suc, true, ◌+◌, ◌<◌, Bool, ◌&&◌, ◌||◌, List, [], ◌∷◌, ◌++◌, Option, Some, None, Result, Ok, Err}
use Rattle.std.proofs.Math.Bool.{false≢true}
use Rattle.std.proofs.Common.{IsErr, MatchResult, OnErr, take, drop, map, length, refl, sym, ap, ◌∙◌, arith}
use Rattle.std.proofs.lemmas.List.{take_more, take-append-drop, map-append, drop_more}
use Rattle.std.proofs.lemmas.List.{length-map, length-take-le}
use Rattle.std.specs.List.{list_all, list_any}
use Rattle.std.proofs.Math.ListN.{get_or}
use Rattle.dt_expr.specs.Scene.{SceneForm}
use Rattle.dt_program.specs.Clause.{form_of_statement}
use Rattle.dt_program.specs.declared.clause.Statement.{Statement}
use Rattle.dt_record.specs.Pasts.{TracingPast}
use Rattle.dt_record.specs.Taking.{Effect, each, effect, past_with, perform}
use Rattle.dt_record.specs.laws.Performing.{ArePerformed, performed_more, performed_stop}
use Rattle.dt_record.specs.laws.BareTakings.{first_of, second_of}
use Rattle.dt_record.proofs.Each.{each-more, each-none}

pub on_err : {T E P : Type 0} (r : Result T E) → P → OnErr r P
on_err (Ok x) p = tt
on_err (Err e) p = p

-- the forms of what a loop has come to
module _ {X A : Type 0} (form : X → A) (xs : List X) (i : ℕ) (x : X) (inside : i < length xs) (is : x ≡ get_or xs i x) where
  -- one turn more
  pub front-turn : map form (take (i + 1) xs) ≡ map form (take i xs) ++ form x ∷ []
  front-turn =
      ap (map form) (take_more xs i x inside ∙ ap (λ z. take i xs ++ z ∷ []) (sym is)) ∙ map-append form (take i xs) (x ∷ [])

  -- all, from a turn on
  pub front-rest : map form xs ≡ map form (take i xs) ++ form x ∷ map form (drop (i + 1) xs)
  front-rest =
      ap (map form) (sym (take-append-drop i xs)
      ∙ ap (λ l. take i xs ++ l) (drop_more xs i x inside ∙ ap (λ z. z ∷ drop (i + 1) xs) (sym is)))
      ∙ map-append form (take i xs) (x ∷ drop (i + 1) xs)

-- an answer that is an error
pub match_err : {T E P : Type 0} (Q : T → Type 0) (r : Result T E) → IsErr r → P → MatchResult r Q (λ _. P)
match_err Q (Ok x) h p = absurd (false≢true h)
match_err Q (Err e) h p = p

module _ {X A B : Type 0} (form : X → A) (f : A → Option B) (xs : List X) (i : ℕ) (x : X)
    (inside : i < length xs) (is : x ≡ get_or xs i x) where
  -- one turn more
  pub each-turn : (ys : List B) (y : B) → each f (map form (take i xs)) ≡ Some ys → f (form x) ≡ Some y
      → each f (map form (take (i + 1) xs)) ≡ Some (ys ++ y ∷ [])
  each-turn ys y before now =
      ap (each f) (front-turn form xs i x inside is) ∙ each-more f (map form (take i xs)) ys (form x) y before now

  -- a turn that gives nothing
  pub each-stop : f (form x) ≡ None → each f (map form xs) ≡ None
  each-stop now =
      ap (each f) (front-rest form xs i x inside is)
      ∙ each-none f (map form (take i xs)) (form x) (map form (drop (i + 1) xs)) now

-- statements that are performed in a loop
module _ (scene : SceneForm) (past : TracingPast) (statements : List Statement) (i : ℕ) (x : Statement)
    (inside : i < length statements) (is : x ≡ get_or statements i x) where
  -- the effects of those so far
  abbrev pub SoFar : List Effect
  SoFar = perform scene past (map form_of_statement (take i statements))

  so_far : length SoFar ≡ i → ArePerformed scene past (map form_of_statement (take i statements)) SoFar
  so_far many = record {
    are = refl;
    many = many ∙ sym (length-map (take i statements) form_of_statement
        ∙ length-take-le i statements (omega (arith, inside)));
  }

  -- one turn more
  pub perform-turn : (e : Effect) → length SoFar ≡ i → effect scene (past_with past SoFar) (form_of_statement x) ≡ Some e
      → perform scene past (map form_of_statement (take (i + 1) statements)) ≡ SoFar ++ e ∷ []
  perform-turn e many does =
      ap (perform scene past) (front-turn form_of_statement statements i x inside is)
      ∙ performed_more scene (map form_of_statement (take i statements)) past SoFar (form_of_statement x) e (so_far many) does

  -- a turn with a division by zero
  pub perform-stop : length SoFar ≡ i → effect scene (past_with past SoFar) (form_of_statement x) ≡ None
      → perform scene past (map form_of_statement statements) ≡ SoFar
  perform-stop many none =
      ap (perform scene past) (front-rest form_of_statement statements i x inside is)
      ∙ performed_stop scene (map form_of_statement (take i statements)) past SoFar (form_of_statement x)
      (map form_of_statement (drop (i + 1) statements)) (so_far many) none

-- a test of forms
pub list_any-map : {A B : Type 0} (test : B → Bool) (form : A → B) (xs : List A)
    → list_any test (map form xs) ≡ list_any (λ x. test (form x)) xs
list_any-map test form [] = refl
list_any-map test form (x ∷ xs) = ap (λ more. test (form x) || more) (list_any-map test form xs)

-- a test that all pass is passed by each
pub list_all-at : {A B : Type 0} (test : B → Bool) (form : A → B) (xs : List A) (i : ℕ) (x : A) → i < length xs
    → x ≡ get_or xs i x → list_all test (map form xs) ≡ true → test (form x) ≡ true
list_all-at test form [] i x inside is h = absurd (omega (arith, inside))
list_all-at test form (y ∷ ys) zero x inside is h =
    ap (λ z. test (form z)) is ∙ first_of (test (form y)) (list_all test (map form ys)) h
list_all-at test form (y ∷ ys) (suc i) x inside is h =
    list_all-at test form ys i x (omega (arith, inside)) is (second_of (test (form y)) (list_all test (map form ys)) h)

pub list_all-map : {A B : Type 0} (test : B → Bool) (form : A → B) (xs : List A)
    → list_all test (map form xs) ≡ list_all (λ x. test (form x)) xs
list_all-map test form [] = refl
list_all-map test form (x ∷ xs) = ap (λ more. test (form x) && more) (list_all-map test form xs)
