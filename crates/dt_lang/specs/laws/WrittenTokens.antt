-- The tokens of a text lie within their bounds, and so do the expressions that they are.
use Rattle.std.proofs.Common.{◌≡◌, ℕ, zero, suc, ◌-◌, ◌≤◌, Bool, List, [], ◌∷◌, ◌++◌, length, Some}
use Rattle.std.proofs.Common.{⊎_elim, ℤ, pos, neg_ℤ, FitsSigned, refl, sym, ap, subst, arith, length-append}
use Rattle.std.proofs.lemmas.Int.{SFits-int_wrap}
use Rattle.std.specs.Int.{w64}
use Rattle.std.specs.List.{AllByRecursion}
use Rattle.dt_names.specs.Limits.{name_max, short_text_max}
use Rattle.dt_expr.specs.Form.{Form}
use Rattle.dt_expr.specs.declared.text.Text.{Text}
use Rattle.dt_expr.specs.declared.text.Text.TheVariants as operand
use Rattle.dt_program.specs.Written.{IsWrittenText, HasWrittenParts, parts_count}
use Rattle.dt_lang.specs.declared.lexer.Lexeme.TheVariants as lexeme
use Rattle.dt_lang.specs.declared.mode.LexerMode.{LexerMode}
use Rattle.dt_lang.specs.declared.mode.LexerMode.TheVariants as modes
use Rattle.dt_lang.specs.declared.piece.Piece.{Piece}
use Rattle.dt_lang.specs.declared.piece.Piece.TheVariants as piece
use Rattle.dt_lang.specs.declared.token.Sign.TheVariants as sign
use Rattle.dt_lang.specs.declared.token.Token.{Token}
use Rattle.dt_lang.specs.declared.token.Token.TheVariants as token
use Rattle.dt_lang.specs.declared.word.Word.{Word}
use Rattle.dt_lang.specs.declared.word.Word.TheVariants as word
use Rattle.dt_lang.specs.Word.{word_bytes}
use Rattle.dt_lang.specs.laws.Words.{name_short}
use Rattle.dt_lang.specs.Expression.{ReadsExpr, ReadsLocal, a_number, a_variable, a_local, thread_local, prefixed, grouped, compared, looser, joined}
use Rattle.dt_lang.specs.Expression.{text_token}
use Rattle.dt_lang.specs.Grammar.{ReadsConstant, plain, negative}
use Rattle.dt_lang.specs.Lexeme.{IsBodyToken, IsHeadToken, IsPiece, Stands, placed}
use Rattle.dt_lang.specs.Reads.{TokensTo, none, another}

-- a variable's name is short
abbrev pub IsShortWord : Word → Type 0
IsShortWord w = (name : List ℕ) → word_bytes w ≡ Some name → length name ≤ name_max

-- a number of a token has 64 bits with a sign, and its bytes are few
abbrev pub IsWrittenToken : Token → Type 0
IsWrittenToken (token.Word w) = IsShortWord w
IsWrittenToken (token.Number z) = FitsSigned w64 z
IsWrittenToken (token.String bytes) = length bytes ≤ short_text_max
IsWrittenToken (token.Aggregation name) = length name ≤ short_text_max
IsWrittenToken _ = Unit {0}

abbrev pub AreWritten : List Token → Type 0
AreWritten ts = AllByRecursion IsWrittenToken ts

-- lists
pub front_all : {A : Type 0} (P : A → Type 0) (xs ys : List A) → AllByRecursion P (xs ++ ys) → AllByRecursion P xs
front_all P [] ys h = tt
front_all P (x ∷ xs) ys h = (h.0, front_all P xs ys h.1)

pub back_all : {A : Type 0} (P : A → Type 0) (xs ys : List A) → AllByRecursion P (xs ++ ys) → AllByRecursion P ys
back_all P [] ys h = h
back_all P (x ∷ xs) ys h = back_all P xs ys h.1

pub joined_all : {A : Type 0} (P : A → Type 0) (xs ys : List A) → AllByRecursion P xs → AllByRecursion P ys
    → AllByRecursion P (xs ++ ys)
joined_all P [] ys h k = k
joined_all P (x ∷ xs) ys h k = (h.0, joined_all P xs ys h.1 k)

-- tokens
body_token : (bytes : List ℕ) (t : Token) → IsBodyToken bytes t → IsWrittenToken t
body_token bytes (token.Word w) h = λ name e. name_short w bytes name h.1 e
body_token bytes (token.Number z) h = subst (λ x. FitsSigned w64 x) (sym h.2) (SFits-int_wrap w64 (pos h.0))
body_token bytes (token.String t) h = h.2
body_token bytes (token.Aggregation name) h = h.2
body_token bytes (token.Sign s) h = tt
body_token bytes (token.Description d) h = tt

head_token : (bytes : List ℕ) (t : Token) → IsHeadToken bytes t → IsWrittenToken t
head_token bytes (token.Description d) h = tt
head_token bytes (token.Sign s) h = tt
head_token bytes (token.Word w) h = absurd h
head_token bytes (token.Number z) h = absurd h
head_token bytes (token.String t) h = absurd h
head_token bytes (token.Aggregation name) h = absurd h

piece_token : (mode : LexerMode) (bytes : List ℕ) (t : Token) (size : ℕ) → IsPiece mode bytes (piece.Token t size)
    → IsWrittenToken t
piece_token modes.Head bytes t size h = head_token bytes t h.0
piece_token modes.Tail bytes t size h = head_token bytes t h.0
piece_token (modes.Predicate depth) bytes t size h = body_token bytes t h.0
piece_token modes.Body bytes t size h = body_token bytes t h.0

standing_token : (mode : LexerMode) (rest : List ℕ) (t : Token) (size : ℕ) → Stands mode rest (piece.Token t size)
    → IsWrittenToken t
standing_token mode [] t size h = cc
standing_token mode (byte ∷ rest) t size h =
    ⊎_elim (λ longest. piece_token mode longest.bytes t size longest.is) (λ stray. let e = stray.0 in cc) h

lexed_token : (mode : LexerMode) (rest : List ℕ) (found : Piece) (place at to : ℕ) (t : Token) → Stands mode rest found
    → lexeme.Token at t to ≡ placed place found → IsWrittenToken t
lexed_token mode rest (piece.Token u size) place at to t h e =
    let same : u ≡ t = cc in subst IsWrittenToken same (standing_token mode rest u size h)
lexed_token mode rest (piece.Overlong limit size) place at to t h e = cc
lexed_token mode rest piece.Stray place at to t h e = cc
lexed_token mode rest piece.End place at to t h e = cc

-- all tokens of a text
pub tokens_written : {text : List ℕ} {mode : LexerMode} {ts : List Token} {from : ℕ} → TokensTo text mode ts from
    → AreWritten ts
tokens_written none = tt
tokens_written {text = text} (another mode ts t from at to h lexes) =
    joined_all IsWrittenToken ts (t ∷ []) (tokens_written h)
    (lexed_token mode lexes.rest lexes.found (length text - length lexes.rest) at to t lexes.stands lexes.lexeme_is, tt)

-- a text
pub text_written : (t : Token) (a : Text) → text_token t ≡ Some a → IsWrittenToken t → IsWrittenText a
text_written (token.String bytes) a e h = let same : operand.Literal bytes ≡ a = cc in subst IsWrittenText same h
text_written (token.Word (word.Text variable)) a e h =
    let same : operand.Variable variable ≡ a = cc in subst IsWrittenText same tt
text_written _ a e h = cc

-- a thread-local variable
pub local_written : {ts : List Token} {name : List ℕ} → ReadsLocal ts name → AreWritten ts → length name ≤ name_max
local_written (a_local w name e) h = h.1.1.0 name e

pub local_long : {ts : List Token} {name : List ℕ} → ReadsLocal ts name → 3 ≤ length ts
local_long (a_local w name e) = omega arith

local_begins : {ts : List Token} {name : List ℕ} → ReadsLocal ts name → (t : Token) × (us : List Token) × (ts ≡ t ∷ us)
local_begins (a_local w name e) = (_, _, refl)

-- an expression
pub parts_written : {divides : Bool} {level : ℕ} {ts : List Token} {f : Form} → ReadsExpr divides level ts f
    → AreWritten ts → HasWrittenParts f
parts_written (a_number divides z) h = h.0
parts_written (a_variable divides v) h = tt
parts_written (thread_local divides ts name r) h = local_written r h
parts_written (prefixed divides s op ts f p e) h = parts_written e h.1
parts_written (grouped divides ts f e) h = parts_written e (front_all IsWrittenToken ts _ h.1)
parts_written (compared divides s op left right a b p q r) h =
    (text_written left a q h.0, text_written right b r h.1.1.0)
parts_written (looser divides level ts f k e) h = parts_written e h
parts_written (joined divides s op ts us f g k e i) h =
    (parts_written e (front_all IsWrittenToken ts _ h), parts_written i (back_all IsWrittenToken ts _ h).1)

pub parts_few : {divides : Bool} {level : ℕ} {ts : List Token} {f : Form} → ReadsExpr divides level ts f
    → parts_count f ≤ length ts
parts_few (a_number divides z) = omega arith
parts_few (a_variable divides v) = omega arith
parts_few (thread_local divides ts name r) = local_long r
parts_few (prefixed divides s op ts f p e) = let few = parts_few e in omega arith
parts_few (grouped divides ts f e) =
    let few = parts_few e in
    let whole = length-append ts (token.Sign sign.CloseParen ∷ []) in
    omega arith
parts_few (compared divides s op left right a b p q r) = omega arith
parts_few (looser divides level ts f k e) = parts_few e
parts_few (joined divides s op ts us f g k e i) =
    let first = parts_few e in
    let second = parts_few i in
    let whole = length-append ts (token.Sign s ∷ us) in
    omega arith

-- an expression begins with some token
pub expression_begins : {divides : Bool} {level : ℕ} {ts : List Token} {f : Form} → ReadsExpr divides level ts f
    → (t : Token) × (us : List Token) × (ts ≡ t ∷ us)
expression_begins (a_number divides z) = (token.Number z, [], refl)
expression_begins (a_variable divides v) = (token.Word (word.Number v), [], refl)
expression_begins (thread_local divides ts name r) = local_begins r
expression_begins (prefixed divides s op ts f p e) = (token.Sign s, ts, refl)
expression_begins (grouped divides ts f e) = (_, _, refl)
expression_begins (compared divides s op left right a b p q r) = (left, token.Sign s ∷ right ∷ [], refl)
expression_begins (looser divides level ts f k e) = expression_begins e
expression_begins (joined divides s op ts us f g k e i) =
    let first = expression_begins e in
    (first.0, first.1 ++ (token.Sign s ∷ us), ap (λ xs. xs ++ (token.Sign s ∷ us)) first.2)

-- a constant
minus_fits : (n : ℕ) → FitsSigned w64 (pos n) → FitsSigned w64 (neg_ℤ (pos n))
minus_fits zero h = h
minus_fits (suc n) h = let small = h.sfits in record { sfits = omega arith }

pub constant_written : {ts : List Token} {z : ℤ} → ReadsConstant ts z → AreWritten ts → FitsSigned w64 z
constant_written (plain n) h = h.0
constant_written (negative n) h = minus_fits n h.1.0
