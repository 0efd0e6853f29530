-- What is read of the parts of a text, and of the whole.
use Rattle.std.proofs.Common.{◌≡◌, ℕ, ◌^◌, ◌<◌, List, [], ◌∷◌, ◌++◌, Option, Some, None, codes, decimal, sym, ap, ◌∙◌}
use Rattle.std.specs.Option.{IfSome, IfNone, MatchOption}
use Rattle.dt_world.specs.Words.{IsCutAtBlank}
use Rattle.dt_world.proofs.Cuts.{same_cut}
use Rattle.dt_world.proofs.Decimals.{decimal_no_blank, one_number}

pub match_some : {X : Type 0} (P : Type 0) (Q : X → Type 0) (o : Option X) → MatchOption o P Q → IfSome o Q
match_some P Q None h = tt
match_some P Q (Some x) h = h

pub match_none : {X : Type 0} (P : Type 0) (Q : X → Type 0) (o : Option X) → MatchOption o P Q → IfNone o P
match_none P Q None h = h
match_none P Q (Some x) h = tt

-- what holds in any case
pub if_none : {X : Type 0} (o : Option X) (P : Type 0) → P → IfNone o P
if_none None P h = h
if_none (Some x) P h = tt

pub some_map : {X : Type 0} (P Q : X → Type 0) (o : Option X) → ((x : X) → P x → Q x) → IfSome o P → IfSome o Q
some_map P Q None f h = tt
some_map P Q (Some x) f h = f x h

pub none_map : {X : Type 0} (P Q : Type 0) (o : Option X) → (P → Q) → IfNone o P → IfNone o Q
none_map P Q None f h = f h
none_map P Q (Some x) f h = tt

-- what stands behind the same front is the same
same_behind : (front r s : List ℕ) → front ++ r ≡ front ++ s → r ≡ s
same_behind [] r s e = e
same_behind (x ∷ front) r s e = same_behind front r s (cc)

pub behind_is : (text front rest other : List ℕ) → text ≡ front ++ rest → text ≡ front ++ other → rest ≡ other
behind_is text front rest other is same = same_behind front rest other (sym is ∙ same)

pub whole_is : (text front rest other : List ℕ) → text ≡ front ++ rest → rest ≡ other → text ≡ front ++ other
whole_is text front rest other is same = is ∙ ap (λ xs. front ++ xs) same

-- a number and a rest are read in one way
pub same_parts : (a b : ℕ) (r s : List ℕ) → a < 2 ^ 32 → b < 2 ^ 32
    → decimal a ++ (codes " " ++ r) ≡ decimal b ++ (codes " " ++ s) → (a ≡ b) × (r ≡ s)
same_parts a b r s p q e =
    let parts = same_cut (decimal a) (decimal b) r s (decimal_no_blank a p) (decimal_no_blank b q) e in
    (one_number a b p q parts.0, parts.1)

-- what stands in front of the first blank, if that is a number
pub front_is : (text front after rest : List ℕ) (n : ℕ) → IsCutAtBlank text front after → n < 2 ^ 32
    → text ≡ decimal n ++ (codes " " ++ rest) → front ≡ decimal n
front_is text front after rest n cut fits is =
    (same_cut front (decimal n) after rest cut.first (decimal_no_blank n fits) (sym cut.whole ∙ is)).0
