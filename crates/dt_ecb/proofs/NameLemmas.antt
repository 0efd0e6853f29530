-- The first use of a name: each use of some clauses is found by its name, and further uses leave what is found.
use Rattle.std.proofs.Common.{◌≡◌, ℕ, zero, suc, ◌+◌, ◌<◌, Bool, true, false, cond, List, [], ◌∷◌, ◌++◌, Option, Some}
use Rattle.std.proofs.Common.{None, length, get_or, map, refl, sym, ap, ◌∙◌, subst, arith}
use Rattle.std.specs.List.{Contains, enumerate_from, find, flat_map}
use Rattle.std.specs.Option.{IsSome, is_some, option_or}
use Rattle.std.specs.Str.{bytes_eq}
use Rattle.std.proofs.lemmas.List.Elements.{Contains-append_left, Contains-append_right}
use Rattle.std.proofs.lemmas.List.Folds.{find-append}
use Rattle.std.proofs.lemmas.Slice.Eq.{bytes_eq-Decides}
use Rattle.dt_program.specs.Program.{ArgForm, CallForm, ClauseForm, aggregate}
use Rattle.dt_ecb.specs.Shapes.{ShapeForm, function_of, kind_of, named, used_by, uses_of}
use Rattle.dt_ecb.proofs.EcbLaws.{enumerate_from-append}

-- the first use of a name, where the first of these uses stands at a place
abbrev pub named_from : ℕ → List ShapeForm → List ℕ → Option (ℕ × ShapeForm)
named_from place shapes name = find (λ (one : ℕ × ShapeForm). bytes_eq one.1.name name) (enumerate_from place shapes)

some_either : {X : Type 0} (b : Bool) (x : X) (o : Option X) → is_some o ≡ true → is_some (cond b (Some x) o) ≡ true
some_either true x o later = refl
some_either false x o later = later

found_at : (name : List ℕ) (n k : ℕ) (shapes : List ShapeForm) (one : ShapeForm) → k < length shapes
    → get_or shapes k one ≡ one → bytes_eq one.name name ≡ true → is_some (named_from n shapes name) ≡ true
found_at name n k [] one inside is same = absurd (omega arith)
found_at name n zero (x ∷ shapes) one inside is same =
    ap (λ b. is_some (cond b (Some (n, x)) (named_from (n + 1) shapes name)))
    (ap (λ (shape : ShapeForm). bytes_eq shape.name name) is ∙ same)
found_at name n (suc k) (x ∷ shapes) one inside is same =
    some_either (bytes_eq x.name name) (n, x) (named_from (n + 1) shapes name)
    (found_at name (n + 1) k shapes one (omega arith) is same)

-- a use is found by its name
some_named : (shapes : List ShapeForm) (one : ShapeForm) → Contains shapes one → IsSome (named shapes one.name)
some_named shapes one among =
    found_at one.name 0 among.0 shapes one among.1 among.2 ((bytes_eq-Decides one.name one.name).1 refl)

joined_at : {X Y : Type 0} (f : X → List Y) (xs : List X) (x : X) (y : Y) (k : ℕ) → k < length xs
    → get_or xs k x ≡ x → Contains (f x) y → Contains (flat_map f xs) y
joined_at f [] x y k inside is among = absurd (omega arith)
joined_at f (z ∷ xs) x y zero inside is among =
    Contains-append_left (f z) (flat_map f xs) y (subst (λ w. Contains (f w) y) (sym is) among)
joined_at f (z ∷ xs) x y (suc k) inside is among =
    Contains-append_right (f z) (flat_map f xs) y (joined_at f xs x y k (omega arith) is among)

-- what is in the list of an element is in the lists of all
Contains-flat_map : {X Y : Type 0} (f : X → List Y) (xs : List X) (x : X) (y : Y) → Contains xs x → Contains (f x) y
    → Contains (flat_map f xs) y
Contains-flat_map f xs x y among inside = joined_at f xs x y among.0 among.1 among.2 inside

-- the name of each statement that aggregates is found
pub all_named : (clauses : List ClauseForm) (clause : ClauseForm) (name : List ℕ) (keys : List ArgForm)
    (call : CallForm) → Contains clauses clause → Contains clause.statements (aggregate name keys call)
    → IsSome (named (uses_of clauses) name)
all_named clauses clause name keys call among inside =
    let one : ShapeForm = record { name = name; function = function_of call; keys = map kind_of keys } in
    some_named (uses_of clauses) one
    (Contains-flat_map (λ (c : ClauseForm). flat_map used_by c.statements) clauses clause one among
    (Contains-flat_map used_by clause.statements (aggregate name keys call) one inside (0, omega arith, refl)))

first_of_both : {X : Type 0} (o p : Option X) → is_some o ≡ true → option_or o p ≡ o
first_of_both None p found = cc
first_of_both (Some x) p found = refl

-- what is found stays the same after further uses
pub same_after : (before after : List ShapeForm) (name : List ℕ) → IsSome (named before name)
    → named (before ++ after) name ≡ named before name
same_after before after name found =
    let test : ℕ × ShapeForm → Bool = λ one. bytes_eq one.1.name name in
    ap (find test) (enumerate_from-append 0 before after)
    ∙ find-append test (enumerate_from 0 before) (enumerate_from (0 + length before) after)
    ∙ first_of_both (named before name) (named_from (0 + length before) after name) found
