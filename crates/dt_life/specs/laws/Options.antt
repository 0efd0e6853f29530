-- What holds of an option or a result.
use Rattle.std.proofs.Common.{◌≡◌, Option, Some, None, sym, subst, Result, Ok, Err}
use Rattle.std.specs.Option.{IfSome, IsSomeAnd, MatchOption}
use Rattle.std.specs.Result.{IfOk}

pub if_some_map : {X : Type 0} (P Q : X → Type 0) (o : Option X) → ((x : X) → P x → Q x) → IfSome o P → IfSome o Q
if_some_map P Q None f h = tt
if_some_map P Q (Some x) f h = f x h

pub some_and : {X : Type 0} (o : Option X) (x : X) (P : X → Type 0) → o ≡ Some x → P x → IsSomeAnd o P
some_and o x P e h = subst (λ p. IsSomeAnd p P) (sym e) h

pub if_ok_map : {T E : Type 0} (P Q : T → Type 0) (r : Result T E) → ((x : T) → P x → Q x) → IfOk r P → IfOk r Q
if_ok_map P Q (Ok x) f h = f x h
if_ok_map P Q (Err e) f h = h

-- what holds of a result that is right, where the premise stands inside
pub if_ok_each : {A T E : Type 0} {P : A → T → Type 0} {R : A → Type 0} {Q : T → Type 0} (r : Result T E)
    → ((x : T) → ((a : A) → R a → P a x) → Q x) → ((a : A) → R a → IfOk r (P a)) → IfOk r Q
if_ok_each (Ok x) f h = f x h
if_ok_each (Err e) f h = tt

-- what a relation says of an option that is known
pub match_none : {X : Type 0} (o : Option X) (A : Type 0) (B : X → Type 0) → o ≡ None → A → MatchOption o A B
match_none o A B e a = subst (λ x. MatchOption x A B) (sym e) a

pub match_some : {X : Type 0} (o : Option X) (A : Type 0) (B : X → Type 0) (x : X) → o ≡ Some x → B x
    → MatchOption o A B
match_some o A B x e b = subst (λ y. MatchOption y A B) (sym e) b

pub some_of : {A : Type 0} (o : Option A) (a : A) (P : A → Type 0) → o ≡ Some a → IfSome o P → P a
some_of o a P is h = subst (λ x. IfSome x P) is h
