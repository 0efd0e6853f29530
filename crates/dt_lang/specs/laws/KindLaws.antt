-- A token begins a statement that an earlier one excludes exactly where the state of the reading says so.
use Rattle.std.proofs.Common.{◌≡◌, ◌⊎◌, inl, inr, true, false, List, [], ◌∷◌, pos, Some, refl, sym, ap, ◌∙◌, subst, arith}
use Rattle.std.proofs.lemmas.Bool.{false≢true}
use Rattle.std.specs.List.{list_any}
use Rattle.dt_expr.specs.Form.{Num}
use Rattle.dt_program.specs.Clause.{ArgForm, number, StatementForm, ClauseForm}
use Rattle.dt_program.specs.Kinds.{StatementKind, recording, speculating, committing, irrevocable, unrestricted, statement_kind, excludes}
use Rattle.dt_lang.specs.declared.token.Sign.TheVariants as sign
use Rattle.dt_lang.specs.declared.token.Token.{Token}
use Rattle.dt_lang.specs.declared.token.Token.TheVariants as token
use Rattle.dt_lang.specs.declared.word.Action.{Action}
use Rattle.dt_lang.specs.declared.word.Action.TheVariants as action
use Rattle.dt_lang.specs.declared.word.Word.TheVariants as word
use Rattle.dt_lang.specs.Expression.{a_local, ReadsArgument, an_expression, a_number, OPERAND}
use Rattle.dt_lang.specs.Grammar.{statement_of, bare, keyed, counting, ReadsStatement, of_argument, of_stack, of_ustack}
use Rattle.dt_lang.specs.Grammar.{aggregating, assigning, drawing, before_statement}
use Rattle.dt_lang.specs.Refused.{IsExcluded}
use Rattle.dt_lang.specs.Stand.{BodyStands}
use Rattle.dt_lang.specs.machine.Cause.{kind_of_action, kind_begun, is_excluded, is_excluded_at}
use Rattle.dt_lang.specs.machine.ClauseState.{PlaceForm, body, ProgramState, program_run, program_start}
use Rattle.dt_lang.specs.laws.ClauseComplete.{body_stands_lead}
use Rattle.dt_lang.specs.laws.ClauseLaws.{read}
use Rattle.dt_lang.specs.laws.ClauseSound.{same_some}
use Rattle.dt_lang.specs.laws.ExpressionSound.{loosen}
use Rattle.dt_lang.specs.laws.Reading.{ReadAt}

-- of a statement that tokens are, the first token tells the kind
argument_kind : (a : Action) (x : ArgForm) (s : StatementForm) → statement_of a x ≡ Some s
    → statement_kind s ≡ kind_of_action a
argument_kind action.Trace x s e = ap statement_kind (sym (same_some e))
argument_kind action.Stack x s e = cc
argument_kind action.Ustack x s e = cc
argument_kind action.Exit (number f) s e = ap statement_kind (sym (same_some e))
argument_kind action.Speculate (number f) s e = ap statement_kind (sym (same_some e))
argument_kind action.Commit (number f) s e = ap statement_kind (sym (same_some e))
argument_kind action.Discard (number f) s e = ap statement_kind (sym (same_some e))
argument_kind _ _ s e = cc

first_is : {t u : Token} {ts us : List Token} → t ∷ ts ≡ u ∷ us → t ≡ u
first_is e = cc

kind_by : (ts : List Token) (s : StatementForm) → ReadsStatement ts s → (t : Token) (more : List Token) → ts ≡ t ∷ more
    → statement_kind s ≡ kind_begun t
kind_by _ _ (of_argument a ts x s m h) t more e = argument_kind a x s m ∙ ap kind_begun (first_is e)
kind_by _ _ (of_stack n h) t more e = ap kind_begun (first_is e)
kind_by _ _ (of_ustack n h) t more e = ap kind_begun (first_is e)
kind_by _ _ (aggregating _ us _ _ call (bare name) k) t more e = ap kind_begun (first_is e)
kind_by _ _ (aggregating _ us _ _ call (keyed name ts keys h) k) t more e = ap kind_begun (first_is e)
kind_by _ _ (assigning _ us _ f (a_local w name h) k) t more e = ap kind_begun (first_is e)
kind_by _ _ (drawing _ _ (a_local w name h)) t more e = ap kind_begun (first_is e)

-- A statement that begins with this token, of the kind that the token begins.
record Begun (t : Token) : Type 0 where
  more : List Token
  statement : StatementForm
  reads : ReadsStatement (t ∷ more) statement
  kind : statement_kind statement ≡ kind_begun t

a_zero : ReadsArgument (token.Number (pos 0) ∷ []) (number (Num (pos 0)))
a_zero = an_expression _ _ (loosen 0 OPERAND (a_number true (pos 0)) (omega arith) (omega arith))

given_zero : (a : Action) (s : StatementForm) → statement_of a (number (Num (pos 0))) ≡ Some s
    → statement_kind s ≡ kind_of_action a → Begun (token.Word (word.Action a))
given_zero a s e kind = record {
  more = token.Sign sign.OpenParen ∷ token.Number (pos 0) ∷ token.Sign sign.CloseParen ∷ [];
  statement = s;
  reads = of_argument a (token.Number (pos 0) ∷ []) _ s e a_zero;
  kind = kind;
}

begun_by : (t : Token) → (kind_begun t ≡ unrestricted) ⊎ Begun t
begun_by (token.Word (word.Action action.Trace)) = inr (given_zero action.Trace _ refl refl)
begun_by (token.Word (word.Action action.Stack)) =
    inr (record { more = _; statement = _; reads = of_stack 1 (record { some = omega arith; few = omega arith }); kind = refl })
begun_by (token.Word (word.Action action.Ustack)) =
    inr (record { more = _; statement = _; reads = of_ustack 1 (record { some = omega arith; few = omega arith }); kind = refl })
begun_by (token.Word (word.Action action.Exit)) = inr (given_zero action.Exit _ refl refl)
begun_by (token.Word (word.Action action.Speculate)) = inr (given_zero action.Speculate _ refl refl)
begun_by (token.Word (word.Action action.Commit)) = inr (given_zero action.Commit _ refl refl)
begun_by (token.Word (word.Action action.Discard)) = inl refl
begun_by (token.Aggregation name) =
    inr (record { more = _; statement = _; reads = aggregating (token.Aggregation name ∷ []) _ name [] _ (bare name) counting; kind = refl })
begun_by _ = inl refl

-- nothing excludes what is unrestricted
none_excludes : (kind : StatementKind) → excludes kind unrestricted ≡ false
none_excludes recording = refl
none_excludes speculating = refl
none_excludes committing = refl
none_excludes irrevocable = refl
none_excludes unrestricted = refl

never_excluded : (ss : List StatementForm) → list_any (λ earlier. excludes (statement_kind earlier) unrestricted) ss ≡ false
never_excluded [] = refl
never_excluded (s ∷ ss) = rw (none_excludes (statement_kind s)) (never_excluded ss)

stands_excluded : (ts : List Token) (cs : List ClauseForm) (c : ClauseForm) (t : Token) → BodyStands before_statement ts cs c
    → is_excluded c t ≡ true → IsExcluded ts t
stands_excluded ts cs c t h e = elim (begun_by t) [
  | inl free ↦ absurd (false≢true (sym (never_excluded c.statements)
      ∙ subst (λ (k : StatementKind). list_any (λ earlier. excludes (statement_kind earlier) k) c.statements ≡ true) free e))
  | inr b ↦ record {
    clauses = cs;
    clause = c;
    stands = h;
    more = b.more;
    later = b.statement;
    reads = b.reads;
    excluded = subst (λ (k : StatementKind). list_any (λ earlier. excludes (statement_kind earlier) k) c.statements ≡ true)
        (sym b.kind) e;
  }
]

place_excluded : (ts : List Token) (cs : List ClauseForm) (c : ClauseForm) (p : PlaceForm) (t : Token) → ReadAt cs c p ts
    → is_excluded_at c p t ≡ true → IsExcluded ts t
place_excluded ts cs c (body before_statement) t h e = stands_excluded ts cs c t h e
place_excluded ts cs c _ t h e = cc

module _ (ts : List Token) (t : Token) (s : ProgramState) (h : program_run program_start ts ≡ Some s) where
  pub excluded_is : is_excluded_at s.clause s.place t ≡ true → IsExcluded ts t
  excluded_is e = place_excluded ts s.clauses s.clause s.place t (read ts s h) e

  pub excluded_true : IsExcluded ts t → is_excluded_at s.clause s.place t ≡ true
  excluded_true k =
      let there = body_stands_lead ts k.clauses k.clause k.stands in
      let kind = kind_by (t ∷ k.more) k.later k.reads t k.more refl in
      subst (λ (x : ProgramState). is_excluded_at x.clause x.place t ≡ true) (same_some (sym there ∙ h))
      (subst (λ (x : StatementKind). list_any (λ earlier. excludes (statement_kind earlier) x) k.clause.statements ≡ true)
      kind k.excluded)
