-- How far a text was read, and what is answered where the reading stops.
use Rattle.std.proofs.Common.{◌≡◌, ℕ, Bool, true, false, cond, eqb, ◌<◌, ◌≤◌, List, ◌∷◌, [], ◌++◌, length, Option, Some, None, Ok, Err, sym, subst, arith}
use Rattle.std.specs.Prelude.{ok_or}
use Rattle.std.specs.Option.{option_map}
use Rattle.dt_lang.specs.declared.fault.LangFault.TheVariants as lang
use Rattle.dt_lang.specs.declared.fault.TokenRefusal.{TokenRefusal}
use Rattle.dt_lang.specs.declared.fault.TokenRefusal.TheVariants as refusal
use Rattle.dt_lang.specs.declared.fault.Flaw.TheVariants.{Syntax, TooLong}
use Rattle.dt_lang.specs.declared.fault.Limit.{Limit}
use Rattle.dt_lang.specs.declared.lexer.Lexeme.TheVariants as lexeme
use Rattle.dt_lang.specs.declared.mode.LexerMode.{LexerMode}
use Rattle.dt_program.specs.declared.program.Program.{Program}
use Rattle.dt_lang.specs.declared.token.Token.{Token}
use Rattle.dt_lang.specs.machine.ClauseState.{ProgramState, program_start, finished}
use Rattle.dt_lang.specs.machine.ShownCause.{AnswersToken, fault_at}
use Rattle.dt_lang.specs.machine.Fits.{Fits}
use Rattle.dt_lang.specs.Lexeme.{Lexes, LiesWithin}
use Rattle.dt_lang.specs.Mode.{depth_of, mode_after}
use Rattle.dt_program.specs.Program.{form_of_program}
use Rattle.dt_lang.specs.machine.ReaderView.{AnsweredText}
use Rattle.dt_lang.specs.laws.TextLaws.{Going, going_on, going_first, refused_at, overlong_at, stray_at, ended_whole}
use Rattle.dt_lang.specs.laws.TextLaws.{ended_early}
use Rattle.dt_lang.specs.declared.mode.LexerMode.TheVariants.{Head, Predicate, Tail, Body}
use Rattle.dt_lang.specs.declared.token.Sign.TheVariants as sign
use Rattle.dt_lang.specs.declared.token.Token.TheVariants as token

-- What was read up to this byte.
pub record SoFar (text : List ℕ) (mode : LexerMode) (from : ℕ) (s : ProgramState) : Type 0 where
  pub tokens : List Token
  pub going : Going text mode tokens from s
  pub fits : Fits s
  pub within : from ≤ length text
  pub deep : depth_of mode ≤ from

pub so_far_first : (text : List ℕ) → SoFar text Head 0 program_start
so_far_first text = record { tokens = []; going = going_first text; fits = omega arith; within = omega arith; deep = omega arith }

after_slash : (b : Bool) (depth to : ℕ) → depth ≤ to → depth_of (cond b Tail (Predicate depth)) ≤ to
after_slash true depth to h = omega arith
after_slash false depth to h = h

-- a token opens one parenthesis at most
deeper : (mode : LexerMode) (t : Token) (from to : ℕ) → depth_of mode ≤ from → from < to → depth_of (mode_after mode t) ≤ to
deeper Head (token.Sign sign.Slash) from to h less = omega arith
deeper Head (token.Sign sign.OpenBrace) from to h less = omega arith
deeper Head _ from to h less = omega arith
deeper (Predicate depth) (token.Sign sign.OpenParen) from to h less = omega arith
deeper (Predicate depth) (token.Sign sign.CloseParen) from to h less = omega arith
deeper (Predicate depth) (token.Sign sign.Slash) from to h less = after_slash (eqb depth 0) depth to (omega arith)
deeper (Predicate depth) _ from to h less = omega arith
deeper Tail (token.Sign sign.OpenBrace) from to h less = omega arith
deeper Tail _ from to h less = omega arith
deeper Body (token.Sign sign.CloseBrace) from to h less = omega arith
deeper Body _ from to h less = omega arith

module _ (text : List ℕ) (mode : LexerMode) (from : ℕ) (s : ProgramState) (h : SoFar text mode from s) where
  pub so_far_on : (t : Token) (at to : ℕ) (new : ProgramState) → Lexes text mode from (lexeme.Token at t to)
      → LiesWithin from (lexeme.Token at t to) (length text) → AnswersToken s t None new
      → SoFar text (mode_after mode t) to new
  so_far_on t at to new l w a = record {
    tokens = h.tokens ++ (t ∷ []);
    going = going_on text mode h.tokens from s h.going t at to new l a.0 a.1;
    fits = a.2;
    within = w.2;
    deep = deeper mode t from to h.deep (omega arith);
  }

  pub so_far_refused : (t : Token) (at to : ℕ) (r : TokenRefusal) (new : ProgramState)
      → Lexes text mode from (lexeme.Token at t to) → AnswersToken s t (Some r) new
      → AnsweredText text (Err (fault_at at to r))
  so_far_refused t at to (refusal.Flaw flaw) new l a = refused_at text mode h.tokens from s h.going t at to _ l a
  so_far_refused t at to (refusal.Destructive what) new l a =
      refused_at text mode h.tokens from s h.going t at to _ l a

  pub so_far_overlong : (at to : ℕ) (limit : Limit) → Lexes text mode from (lexeme.Overlong at limit to)
      → AnsweredText text (Err (lang.Program at to (TooLong limit)))
  so_far_overlong at to limit l = overlong_at text mode h.tokens from s h.going at to limit l

  pub so_far_stray : (at : ℕ) → Lexes text mode from (lexeme.Stray at)
      → AnsweredText text (Err (lang.Program at at Syntax))
  so_far_stray at l = stray_at text mode h.tokens from s h.going at l

  pub so_far_whole : (at : ℕ) (p : Program) → Lexes text mode from (lexeme.End at)
      → Some (form_of_program p) ≡ finished s → AnsweredText text (Ok p)
  so_far_whole at p l e = ended_whole text mode h.tokens from s h.going at (form_of_program p) l (sym e)

  pub so_far_early : (at : ℕ) → Lexes text mode from (lexeme.End at) → None ≡ finished s
      → AnsweredText text (Err (lang.Program at at Syntax))
  so_far_early at l e = ended_early text mode h.tokens from s h.going at l (sym e)

  pub so_far_end : (at : ℕ) (r : Option Program) → Lexes text mode from (lexeme.End at)
      → option_map form_of_program r ≡ finished s → AnsweredText text (ok_or r (lang.Program at at Syntax))
  so_far_end at (Some p) l e = so_far_whole at p l e
  so_far_end at None l e = so_far_early at l e

-- what was answered of a token
pub answers_is : (s new : ProgramState) (t : Token) (v w : Option TokenRefusal) → v ≡ w → AnswersToken s t v new
    → AnswersToken s t w new
answers_is s new t v w e a = subst (λ (x : Option TokenRefusal). AnswersToken s t x new) e a
