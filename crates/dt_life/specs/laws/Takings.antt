-- What takings add to faults, and where they exit.
use Rattle.std.proofs.Common.{◌≡◌, ℕ, ℤ, zero, suc, ◌+◌, ◌<◌, get_or, Bool, true, false, List, [], ◌∷◌}
use Rattle.std.proofs.Common.{◌++◌, length, filter, if◌then◌else◌, Option, Some, None, map, refl, sym, ap, subst, ◌∙◌}
use Rattle.std.proofs.Common.{arith}
use Rattle.std.specs.List.{All}
use Rattle.std.specs.Option.{is_some, option_or}
use Rattle.std.proofs.lemmas.List.{length-append}
use Rattle.dt_lang.specs.Program.{form_of_clause}
use Rattle.dt_program.specs.declared.clause.Clause.{Clause}
use Rattle.dt_ecb.specs.Forms.{no_clause}
use Rattle.dt_ecb.specs.declared.parts.Ecb.{Ecb}
use Rattle.dt_record.specs.Taking.{is_abandoned}
use Rattle.dt_life.specs.Takings.{Taking, exit_of, first_exit, through_exit, faults}

picked-append : {X : Type 0} (b : Bool) (x : X) (xs ys zs : List X) → zs ≡ xs ++ ys
    → (if b then x ∷ zs else zs) ≡ (if b then x ∷ xs else xs) ++ ys
picked-append true x xs ys zs e = ap (λ rest. x ∷ rest) e
picked-append false x xs ys zs e = e

filter-append : {X : Type 0} (p : X → Bool) (xs ys : List X) → filter p (xs ++ ys) ≡ filter p xs ++ filter p ys
filter-append p [] ys = refl
filter-append p (x ∷ xs) ys =
    picked-append (p x) x (filter p xs) (filter p ys) (filter p (xs ++ ys)) (filter-append p xs ys)

pub faults-append : (xs ys : List Taking) → faults (xs ++ ys) ≡ faults xs + faults ys
faults-append xs ys =
    ap length (filter-append (λ (t : Taking). is_abandoned t.taken.outcome) xs ys)
    ∙ length-append (filter (λ (t : Taking). is_abandoned t.taken.outcome) xs) (filter (λ (t : Taking). is_abandoned t.taken.outcome) ys)

-- the clause of the ECB at a place is there
pub there_at : (row : List Ecb) (i : ℕ) (ecb : Ecb) (count : ℕ) → All (λ (e : Ecb). e.clause < count) row
    → i < length row → ecb ≡ get_or row i ecb → ecb.clause < count
there_at row i ecb count all inside is = subst (λ (e : Ecb). e.clause < count) (sym is) (all i ecb inside)

-- the form of a clause that is found at a place
pub clause_found : (clauses : List Clause) (place : ℕ) (clause : Clause) → place < length clauses
    → clause ≡ get_or clauses place clause
    → get_or (map form_of_clause clauses) place no_clause ≡ form_of_clause clause
clause_found [] place clause inside e = absurd (omega arith)
clause_found (first ∷ clauses) zero clause inside e = ap form_of_clause (sym e)
clause_found (first ∷ clauses) (suc place) clause inside e = clause_found clauses place clause (omega arith) e

-- where none exits
none_first : {X : Type 0} (o p : Option X) → option_or o p ≡ None → (o ≡ None) × (p ≡ None)
none_first None p e = (refl, e)
none_first (Some x) p e = cc

pub first_exit-append : (xs ys : List Taking) → first_exit xs ≡ None → first_exit (xs ++ ys) ≡ first_exit ys
first_exit-append [] ys e = refl
first_exit-append (x ∷ xs) ys e =
    let two = none_first (exit_of x) (first_exit xs) e in
    ap (λ o. option_or o (first_exit (xs ++ ys))) two.0 ∙ first_exit-append xs ys two.1

pub through_none : (xs : List Taking) → first_exit xs ≡ None → through_exit xs ≡ xs
through_none [] e = refl
through_none (x ∷ xs) e =
    let two = none_first (exit_of x) (first_exit xs) e in
    ap (λ o. x ∷ (if is_some o then [] else through_exit xs)) two.0 ∙ ap (λ rest. x ∷ rest) (through_none xs two.1)

-- the first that exits is the last that is taken
pub through_first : (xs : List Taking) (y : Taking) (ys : List Taking) → first_exit xs ≡ None
    → is_some (exit_of y) ≡ true → through_exit (xs ++ y ∷ ys) ≡ xs ++ y ∷ []
through_first [] y ys e exits = ap (λ b. y ∷ (if b then [] else through_exit ys)) exits
through_first (x ∷ xs) y ys e exits =
    let two = none_first (exit_of x) (first_exit xs) e in
    ap (λ o. x ∷ (if is_some o then [] else through_exit (xs ++ y ∷ ys))) two.0
    ∙ ap (λ rest. x ∷ rest) (through_first xs y ys two.1 exits)

same_first : (o : Option ℤ) (rest later : List Taking) → first_exit rest ≡ first_exit later
    → option_or o (first_exit (if is_some o then [] else rest)) ≡ option_or o (first_exit later)
same_first None rest later e = e
same_first (Some status) rest later e = refl

pub first_through : (xs : List Taking) → first_exit (through_exit xs) ≡ first_exit xs
first_through [] = refl
first_through (x ∷ xs) = same_first (exit_of x) (through_exit xs) xs (first_through xs)

exit_there : (o : Option ℤ) (p : Option ℤ) → is_some o ≡ true → option_or o p ≡ o
exit_there None p e = cc
exit_there (Some status) p e = refl

-- the first exit, where those before it don't exit
pub first_here : (xs : List Taking) (y : Taking) (ys : List Taking) → first_exit xs ≡ None
    → is_some (exit_of y) ≡ true → first_exit (xs ++ y ∷ ys) ≡ exit_of y
first_here xs y ys e exits = first_exit-append xs (y ∷ ys) e ∙ exit_there (exit_of y) (first_exit ys) exits

no_exit : (o : Option ℤ) (p : Option ℤ) → is_some o ≡ false → p ≡ None → option_or o p ≡ None
no_exit None p e n = n
no_exit (Some status) p e n = cc

pub none_more : (xs : List Taking) (y : Taking) → first_exit xs ≡ None → is_some (exit_of y) ≡ false
    → first_exit (xs ++ y ∷ []) ≡ None
none_more xs y e stays = first_exit-append xs (y ∷ []) e ∙ no_exit (exit_of y) None stays refl
