-- A token is one more of an expression exactly where the state of its reading says so.
use Rattle.std.proofs.Common.{◌≡◌, ◌⊎◌, inl, inr, Bool, true, false, ◌&&◌, ◌||◌, List, [], ◌∷◌, ◌++◌, Option, Some}
use Rattle.std.proofs.Common.{None, is_some, refl, sym, ap, ◌∙◌}
use Rattle.std.specs.Prelude.{option_and_then}
use Rattle.dt_lang.specs.declared.token.Sign.TheVariants as sign
use Rattle.dt_lang.specs.declared.token.Token.{Token}
use Rattle.dt_lang.specs.declared.token.Token.TheVariants as token
use Rattle.dt_lang.specs.Expression.{BeginsExpr}
use Rattle.dt_lang.specs.machine.ExpressionState.{State, is_operand, start, step, run, wants, takes_number, takes_text}
use Rattle.dt_lang.specs.Refused.{OperandStands, a_number, a_text, IsOperand, GoesOn, fits, taken}
use Rattle.dt_lang.specs.machine.Cause.{is_one_more}
use Rattle.dt_lang.specs.laws.ExpressionLaws.{complete, viable, bang_goes_on, string_goes_on, wants_operand, run_beginning}
use Rattle.dt_lang.specs.laws.ClauseSound.{none_some, run_last}

-- The tokens lead somewhere, and the last leads on from there.
pub record LastStep (divides : Bool) (ts : List Token) (t : Token) : Type 0 where
  pub at : State
  pub next : State
  pub runs : run (start divides) ts ≡ Some at
  pub steps : step at t ≡ Some next

-- The tokens of an expression's beginning lead somewhere.
pub record ExprLeads (divides : Bool) (ts : List Token) : Type 0 where
  pub at : State
  pub runs : run (start divides) ts ≡ Some at

pub expr_leads : (divides : Bool) (ts : List Token) → BeginsExpr divides ts → ExprLeads divides ts
expr_leads divides ts h =
    let r = complete divides (ts ++ h.more) h.form h.reads in
    let b = run_beginning (start divides) r.at ts h.more r.runs in
    record { at = b.at; runs = b.first }

steps_one : (s next : State) (t : Token) → run s (t ∷ []) ≡ Some next → step s t ≡ Some next
unfolding run
steps_one s next t h = go (step s t) refl h
  where
    go : (o : Option State) → step s t ≡ o → option_and_then (λ n. run n []) o ≡ Some next → step s t ≡ Some next
    go None e k = absurd (none_some k)
    go (Some m) e k = e ∙ k

pub last_step : (divides : Bool) (ts : List Token) (t : Token) → BeginsExpr divides (ts ++ (t ∷ []))
    → LastStep divides ts t
last_step divides ts t h =
    let l = expr_leads divides (ts ++ (t ∷ [])) h in
    let b = run_beginning (start divides) l.at ts (t ∷ []) l.runs in
    record { at = b.at; next = l.at; runs = b.first; steps = steps_one b.at l.at t b.second }

pub or_left : (a b : Bool) → a ≡ true → a || b ≡ true
or_left a b e = rw e refl

pub or_right : (a b : Bool) → b ≡ true → a || b ≡ true
or_right true b e = refl
or_right false b e = e

pub one_of : (a b : Bool) → a || b ≡ true → (a ≡ true) ⊎ (b ≡ true)
one_of true b e = inl refl
one_of false b e = inr e

-- what is there is something
pub some_state : (A : Type 0) (o : Option A) → is_some o ≡ true → (a : A) × (o ≡ Some a)
some_state A (Some a) e = (a, refl)
some_state A None e = cc

wants_number : (s : State) → takes_number s ≡ true → wants s ≡ true
wants_number s h = sym (wants_operand s) ∙ or_left (takes_number s) (takes_text s) h

wants_text : (s : State) → takes_text s ≡ true → wants s ≡ true
wants_text s h = sym (wants_operand s) ∙ or_right (takes_number s) (takes_text s) h

-- an operand stands there where a number or a text goes on
pub wants_where_number : (s next : State) → step s (token.Sign sign.Bang) ≡ Some next → wants s ≡ true
wants_where_number s next h = wants_number s (sym (bang_goes_on s) ∙ ap is_some h)

pub wants_where_text : (s next : State) → step s (token.String []) ≡ Some next → wants s ≡ true
wants_where_text s next h = wants_text s (sym (string_goes_on s) ∙ ap is_some h)

-- where an operand stands, a number or a text goes on
pub operand_goes_on : (s : State) → wants s ≡ true
    → ((next : State) × (step s (token.Sign sign.Bang) ≡ Some next))
    ⊎ ((next : State) × (step s (token.String []) ≡ Some next))
operand_goes_on s h = elim (one_of (takes_number s) (takes_text s) (wants_operand s ∙ h)) [
  | inl k ↦ inl (some_state State _ (bang_goes_on s ∙ k))
  | inr k ↦ inr (some_state State _ (string_goes_on s ∙ k))
]

is_operand_true : (t : Token) → IsOperand t → is_operand t ≡ true
is_operand_true (token.Word w) h = refl
is_operand_true (token.Number z) h = refl
is_operand_true (token.String bytes) h = refl
is_operand_true _ h = absurd h

is_operand_is : (t : Token) → is_operand t ≡ true → IsOperand t
is_operand_is (token.Word w) h = tt
is_operand_is (token.Number z) h = tt
is_operand_is (token.String bytes) h = tt
is_operand_is _ h = cc

-- the state that an expression's beginning leads to, and what it takes
pub record TakesThere (divides : Bool) (ts : List Token) (t : Token) : Type 0 where
  pub at : State
  pub runs : run (start divides) ts ≡ Some at
  pub takes_it : is_one_more at t ≡ true

pub goes_on_takes : (divides : Bool) (ts : List Token) (t : Token) → GoesOn divides ts t → TakesThere divides ts t
goes_on_takes divides ts t (fits b) =
    let l = last_step divides ts t b in
    record { at = l.at; runs = l.runs; takes_it = or_left _ _ (ap is_some l.steps) }
goes_on_takes divides ts t (taken o (a_number b)) =
    let l = last_step divides ts _ b in
    let w = wants_where_number l.at l.next l.steps in
    record {
      at = l.at;
      runs = l.runs;
      takes_it = or_right (is_some (step l.at t)) _ (rw (is_operand_true t o, w) refl);
    }
goes_on_takes divides ts t (taken o (a_text b)) =
    let l = last_step divides ts _ b in
    let w = wants_where_text l.at l.next l.steps in
    record {
      at = l.at;
      runs = l.runs;
      takes_it = or_right (is_some (step l.at t)) _ (rw (is_operand_true t o, w) refl);
    }

operand_stands : (divides : Bool) (ts : List Token) (s : State) → run (start divides) ts ≡ Some s → wants s ≡ true
    → OperandStands divides ts
operand_stands divides ts s h w = elim (operand_goes_on s w) [
  | inl k ↦ a_number (viable divides _ k.0 (run_last s (start divides) k.0 ts _ h k.1))
  | inr k ↦ a_text (viable divides _ k.0 (run_last s (start divides) k.0 ts _ h k.1))
]

pub both_left : (a b : Bool) → a && b ≡ true → a ≡ true
both_left true b e = refl
both_left false b e = e

pub both_right : (a b : Bool) → a && b ≡ true → b ≡ true
both_right true b e = e
both_right false b e = cc

pub takes_goes_on : (divides : Bool) (ts : List Token) (s : State) (t : Token) → run (start divides) ts ≡ Some s
    → is_one_more s t ≡ true → GoesOn divides ts t
takes_goes_on divides ts s t h k = elim (one_of (is_some (step s t)) (is_operand t && wants s) k) [
  | inl i ↦ let n = some_state State (step s t) i in
      fits (viable divides _ n.0 (run_last s (start divides) n.0 ts t h n.1))
  | inr i ↦ taken (is_operand_is t (both_left _ _ i)) (operand_stands divides ts s h (both_right (is_operand t) _ i))
]
