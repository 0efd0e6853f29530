-- What the exit of a `?` returns, where the error is passed on as it is, and where memory ran out.
use Rattle.std.proofs.Common.{◌≡◌, Option, Some, None, Result, Ok, Err, IfErr, IsErrAnd, sym, subst}
use Rattle.std.specs.Option.{MatchOption, IfSome, IfNone, ok_or}
use Rattle.std.specs.Result.{MatchResult}
use Rattle.dt_machine.specs.declared.found.Found.{Found}

pub passed_on : {T E : Type 0} (Q : E → Type 0) (r : Result T E) (e : E) → IsErrAnd r (λ x. x ≡ e) → Q e → IfErr r Q
passed_on Q (Ok x) e h q = absurd h
passed_on Q (Err x) e h q = subst Q (sym h) q

-- the same of an answer that has a value or an error
pub refused_with : {T E : Type 0} (P : T → Type 0) (Q : E → Type 0) (r : Result T E) (e : E)
    → IsErrAnd r (λ x. x ≡ e) → Q e → MatchResult r P Q
refused_with P Q (Ok x) e h q = absurd h
refused_with P Q (Err x) e h q = subst Q (sym h) q

-- where there is nothing, the error that was given comes in its place
pub missed : {A : Type 0} (o : Option A) (given e : Found) (P : Type 0) (Q : A → Type 0) → MatchOption o P Q
    → ◌≡◌ {A = Result A Found} (Err e) (ok_or o given) → P × (e ≡ given)
missed None given e P Q m is = (m, cc)
missed (Some x) given e P Q m is = absurd (cc)

pub missed_text : {A : Type 0} (o : Option A) (given e : Found) (P : Type 0) → IfNone o P
    → ◌≡◌ {A = Result A Found} (Err e) (ok_or o given) → P × (e ≡ given)
missed_text None given e P m is = (m, cc)
missed_text (Some x) given e P m is = absurd (cc)

pub found_text : {A : Type 0} (o : Option A) (Q : A → Type 0) (x : A) → o ≡ Some x → IfSome o Q → Q x
found_text {A} o Q x is found = let F : Option A → Type 0 = λ p. IfSome p Q in subst F is found
