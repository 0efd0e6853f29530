-- Whether a statement of a clause excludes another, and whether a variable's name is too long.
use Rattle.std.proofs.Common.{◌≡◌, ℕ, Bool, true, List, [], ◌∷◌, Some, None, map, refl, ap, ◌||◌}
use Rattle.std.specs.List.{list_any}
use Rattle.dt_program.specs.Clause.{form_of_statement}
use Rattle.dt_program.specs.Kinds.{StatementKind, statement_kind, excludes}
use Rattle.dt_program.specs.declared.clause.Statement.{Statement}
use Rattle.dt_lang.specs.declared.fault.Limit.TheVariants as limits
use Rattle.dt_lang.specs.declared.token.Token.{Token}
use Rattle.dt_lang.specs.declared.token.Token.TheVariants as token
use Rattle.dt_lang.specs.declared.word.Word.TheVariants as word
use Rattle.dt_lang.specs.Stand.{Slot}
use Rattle.dt_lang.specs.machine.Cause.{too_long_within}
use Rattle.dt_lang.specs.machine.ExpressionState.{PendingForm, HandForm, arrow_read, State, state, is_long_name_at, step}

-- a statement is looked for by its form
pub any_statement : (later : StatementKind) (xs : List Statement)
    → list_any (λ earlier. excludes (statement_kind earlier) later) (map form_of_statement xs)
    ≡ list_any (λ x. excludes (statement_kind (form_of_statement x)) later) xs
any_statement later [] = refl
any_statement later (x ∷ xs) = ap (λ b. excludes (statement_kind (form_of_statement x)) later || b) (any_statement later xs)

long_from : (slot : Slot) (n : ℕ) (divides : Bool) (pending : List PendingForm) (hand : HandForm) (t : Token)
    → is_long_name_at hand t ≡ true → too_long_within slot n (state divides pending hand) t ≡ Some limits.LocalBytes
unfolding step
long_from slot n divides pending arrow_read (token.Word (word.Unknown None)) h = refl
long_from slot n divides pending arrow_read _ h = cc
long_from slot n divides pending _ t h = cc

-- a variable's name that is too long passes a limit, however many tokens were read
pub long_within : (slot : Slot) (n : ℕ) (e : State) (t : Token) → is_long_name_at e.hand t ≡ true
    → too_long_within slot n e t ≡ Some limits.LocalBytes
long_within slot n e t h = long_from slot n e.divides e.pending e.hand t h
