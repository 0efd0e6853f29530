-- Which tokens go on with what is read for a slot, without ending it; and what `->` and `count` lead to.
use Rattle.std.proofs.Common.{◌≡◌, ℕ, ◌+◌, eqb, Bool, true, false, ◌&&◌, List, Option, Some, None, is_some, refl, sym, ◌∙◌, if◌then◌else◌, subst}
use Rattle.std.specs.Prelude.{codes}
use Rattle.dt_expr.specs.Form.{Local}
use Rattle.dt_lang.specs.declared.token.Sign.TheVariants as sign
use Rattle.dt_lang.specs.declared.token.Token.{Token}
use Rattle.dt_lang.specs.declared.token.Token.TheVariants as token
use Rattle.dt_lang.specs.declared.word.Function.TheVariants as function
use Rattle.dt_lang.specs.declared.word.Word.TheVariants as word
use Rattle.dt_lang.specs.Expression.{OPERAND}
use Rattle.dt_lang.specs.Stand.{Slot, predicate, given, key, value, assignment}
use Rattle.dt_program.specs.Clause.{ArgForm, number, text, ClauseForm}
use Rattle.dt_lang.specs.machine.ExpressionState as expression
use Rattle.dt_lang.specs.machine.ExpressionState.{PendingForm, HandForm, nothing, self_read, arrow_read, whole, lone, compares}
use Rattle.dt_lang.specs.machine.ClauseState.{ProgramState, program_at, within, shut, draws, is_speculation, begin_draw, end_within, go_on, from_within}
use Rattle.dt_lang.specs.laws.ClauseSound.{none_some, same_some}

-- what may end what is read for a slot
abbrev pub ends_slot : Token → Bool
ends_slot (token.Sign sign.Slash) = true
ends_slot (token.Sign sign.CloseParen) = true
ends_slot (token.Sign sign.Comma) = true
ends_slot (token.Sign sign.CloseBracket) = true
ends_slot (token.Sign sign.Semicolon) = true
ends_slot (token.Sign sign.CloseBrace) = true
ends_slot _ = false

no_end : (cs : List ClauseForm) (c : ClauseForm) (slot : Slot) (t : Token) (a : ArgForm) → ends_slot t ≡ false
    → shut cs c slot t a ≡ None
no_end cs c slot (token.Sign sign.Slash) a h = cc
no_end cs c slot (token.Sign sign.CloseParen) a h = cc
no_end cs c slot (token.Sign sign.Comma) a h = cc
no_end cs c slot (token.Sign sign.CloseBracket) a h = cc
no_end cs c slot (token.Sign sign.Semicolon) a h = cc
no_end cs c slot (token.Sign sign.CloseBrace) a h = cc
no_end cs c predicate t (number f) h = refl
no_end cs c predicate t (text a) h = refl
no_end cs c (given action) t a h = refl
no_end cs c (key name keys) t a h = refl
no_end cs c (value name keys fn) t (number f) h = refl
no_end cs c (value name keys fn) t (text a) h = refl
no_end cs c (assignment name) t (number f) h = refl
no_end cs c (assignment name) t (text a) h = refl

both_false : (a b : Bool) → b ≡ false → a && b ≡ false
both_false true b e = e
both_false false b e = refl

-- only `speculation` is drawn
pub no_draw : (slot : Slot) (n : ℕ) (t : Token) → is_speculation t ≡ false → draws slot n t ≡ false
no_draw (assignment name) n t h = both_false (eqb n 0) (is_speculation t) h
no_draw _ n t h = refl

is_some_if : {A : Type 0} (b : Bool) (x : A) → is_some (if b then Some x else None) ≡ b
is_some_if true x = refl
is_some_if false x = refl

pub begin_draw_is : (cs : List ClauseForm) (c : ClauseForm) (slot : Slot) (n : ℕ) (t : Token)
    → is_some (begin_draw cs c slot n t) ≡ draws slot n t
begin_draw_is cs c (assignment name) n t = is_some_if (eqb n 0 && is_speculation t) _
begin_draw_is cs c _ n t = refl

none_is : {A : Type 0} (o : Option A) → is_some o ≡ false → o ≡ None
none_is None h = refl
none_is (Some x) h = cc

end_none : (cs : List ClauseForm) (c : ClauseForm) (slot : Slot) (n : ℕ) (t : Token) (d : Option ArgForm)
    → ends_slot t ≡ false → is_speculation t ≡ false → end_within cs c slot n t d ≡ None
end_none cs c slot n t (Some a) h k = no_end cs c slot t a h
end_none cs c slot n t None h k = none_is _ (begin_draw_is cs c slot n t ∙ no_draw slot n t k)

-- A token goes on with the expression.
pub record GoesWithin (cs : List ClauseForm) (c : ClauseForm) (slot : Slot) (n : ℕ) (e : expression.State) (t : Token)
    (next : ProgramState) : Type 0 where
  pub at : expression.State
  pub steps : expression.step e t ≡ Some at
  pub is : program_at cs c (within slot (n + 1) at) ≡ next

-- a token that ends nothing goes on with the expression
pub goes_within : (cs : List ClauseForm) (c : ClauseForm) (slot : Slot) (n : ℕ) (e : expression.State) (t : Token)
    (next : ProgramState) → ends_slot t ≡ false → is_speculation t ≡ false → from_within cs c slot n e t ≡ Some next
    → GoesWithin cs c slot n e t next
goes_within cs c slot n e t next h k r = go (expression.step e t) refl r
  where
    go : (o : Option expression.State) → expression.step e t ≡ o → go_on cs c slot n e t o ≡ Some next
        → GoesWithin cs c slot n e t next
    go (Some m) s q = record { at = m; steps = s; is = same_some q }
    go None s q = absurd (none_some (sym (end_none cs c slot n t (expression.done e) h k) ∙ q))

-- `->` goes on with `self` alone
arrow_from : (divides : Bool) (pending : List PendingForm) (hand : HandForm) (m : expression.State)
    → expression.step_from divides pending hand (token.Sign sign.Arrow) ≡ Some m
    → expression.state divides pending arrow_read ≡ m
arrow_from divides pending self_read m h = same_some h
arrow_from divides pending nothing m h = cc
arrow_from divides pending arrow_read m h = cc
arrow_from divides pending (whole level f) m h = cc
arrow_from divides pending (lone a) m h = cc
arrow_from divides pending (compares op a) m h = cc

pub arrow_leads : (e m : expression.State) → expression.step e (token.Sign sign.Arrow) ≡ Some m
    → expression.state e.divides e.pending arrow_read ≡ m
unfolding expression.step
arrow_leads e m h = arrow_from e.divides e.pending e.hand m h

-- `count` goes on as a variable's name alone, and no `(` goes on with that
count_from : (divides : Bool) (pending : List PendingForm) (hand : HandForm) (m : expression.State)
    → expression.step_from divides pending hand (token.Word (word.Function function.Count)) ≡ Some m
    → expression.state divides pending (whole OPERAND (Local (codes "count"))) ≡ m
count_from divides pending arrow_read m h = same_some h
count_from divides pending nothing m h = cc
count_from divides pending self_read m h = cc
count_from divides pending (whole level f) m h = cc
count_from divides pending (lone a) m h = cc
count_from divides pending (compares op a) m h = cc

pub count_stays : (e m : expression.State) → expression.step e (token.Word (word.Function function.Count)) ≡ Some m
    → expression.step m (token.Sign sign.OpenParen) ≡ None
unfolding expression.step
count_stays e m h =
    subst (λ (x : expression.State). expression.step x (token.Sign sign.OpenParen) ≡ None)
    (count_from e.divides e.pending e.hand m h) refl
