-- How a text is read: as a program, or as none, with the place at which that shows and the cause.
use Rattle.std.specs.Prelude.{◌≡◌, ℕ, List, [], ◌∷◌, ◌++◌}
use Rattle.dt_lang.specs.declared.fault.Why.{Why}
use Rattle.dt_lang.specs.declared.fault.Flaw.{Flaw}
use Rattle.dt_lang.specs.declared.fault.Flaw.TheVariants.{Syntax, TooLong}
use Rattle.dt_lang.specs.declared.fault.Limit.{Limit}
use Rattle.dt_lang.specs.Fault.{why_of}
use Rattle.dt_lang.specs.declared.lexer.Lexeme.TheVariants as lexeme
use Rattle.dt_lang.specs.declared.mode.LexerMode.{LexerMode}
use Rattle.dt_lang.specs.declared.mode.LexerMode.TheVariants.{Head}
use Rattle.dt_lang.specs.declared.token.Token.{Token}
use Rattle.dt_lang.specs.declared.word.Destructive.{Destructive}
use Rattle.dt_lang.specs.Grammar.{ReadsProgram}
use Rattle.dt_lang.specs.Lexeme.{Lexes}
use Rattle.dt_lang.specs.Mode.{mode_after}
use Rattle.dt_program.specs.Clause.{ClauseForm}
use Rattle.dt_lang.specs.Refused.{Cause, because, destroys, Refused, NoneRefused}

-- The tokens stand at the front of the text, up to this byte, each the lexeme after the one before it, in the mode
-- that the tokens before it give.
pub data TokensTo (text : List ℕ) : LexerMode → List Token → ℕ → Type 0 where
  none : TokensTo text Head [] 0
  another : (mode : LexerMode) (ts : List Token) (t : Token) (from at to : ℕ) → TokensTo text mode ts from
      → Lexes text mode from (lexeme.Token at t to) → TokensTo text (mode_after mode t) (ts ++ (t ∷ [])) to

-- Where the text is no program: at which byte that shows, where the token ends that begins there, and the cause. Where no
-- token begins, `end` is `at`.
pub data IsRefusedProgram (text : List ℕ) : (at end : ℕ) → Cause → Type 0 where
  -- a token that is refused after those before it
  a_token : (mode : LexerMode) (ts : List Token) (t : Token) (from at to : ℕ) (cause : Cause) → TokensTo text mode ts from
      → NoneRefused ts → Lexes text mode from (lexeme.Token at t to) → Refused ts t cause → IsRefusedProgram text at to cause
  -- a string or an aggregation's name with too many bytes
  overlong : (mode : LexerMode) (ts : List Token) (from at to : ℕ) (limit : Limit) → TokensTo text mode ts from
      → NoneRefused ts → Lexes text mode from (lexeme.Overlong at limit to)
      → IsRefusedProgram text at to (because (TooLong limit))
  -- bytes that are no token
  stray : (mode : LexerMode) (ts : List Token) (from at : ℕ) → TokensTo text mode ts from → NoneRefused ts
      → Lexes text mode from (lexeme.Stray at) → IsRefusedProgram text at at (because Syntax)
  -- the end of what only begins a program
  unfinished : (mode : LexerMode) (ts : List Token) (from at : ℕ) → TokensTo text mode ts from → NoneRefused ts
      → Lexes text mode from (lexeme.End at) → ((cs : List ClauseForm) → ReadsProgram ts cs → ⊥)
      → IsRefusedProgram text at at (because Syntax)

-- The text is tokens to its end, none of them is refused, and they are this program.
pub record IsProgram (text : List ℕ) (cs : List ClauseForm) : Type 0 where
  pub mode : LexerMode
  pub tokens : List Token
  pub from : ℕ
  pub stand : TokensTo text mode tokens from
  pub unrefused : NoneRefused tokens
  pub at : ℕ
  pub end : Lexes text mode from (lexeme.End at)
  pub reads : ReadsProgram tokens cs

-- how a text is read, without what was found where it is refused
pub data Reading : Type 0 where
  program : List ClauseForm → Reading
  fault : (at : ℕ) → Why → Reading
  destructive : (at : ℕ) → Destructive → Reading

-- A text is read as the program that it is, or as refused at the first token for which a cause holds.
abbrev pub Reads : List ℕ → Reading → Type 0
Reads text (program cs) = IsProgram text cs
Reads text (fault at why) = (end : ℕ) × (flaw : Flaw) × (why ≡ why_of flaw) × IsRefusedProgram text at end (because flaw)
Reads text (destructive at what) = (end : ℕ) × IsRefusedProgram text at end (destroys what)
