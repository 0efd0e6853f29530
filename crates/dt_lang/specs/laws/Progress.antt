-- A token takes a byte at least, and no more than there are.
use Rattle.std.proofs.Common.{◌≡◌, ℕ, ◌≤◌, inl, inr, List, [], ◌∷◌, length, ap, arith, length-append}
use Rattle.dt_lang.specs.Lexeme.{IsBodyPiece, IsHeadPiece, IsPiece, Stands}
use Rattle.dt_lang.specs.declared.fault.Limit.{Limit}
use Rattle.dt_lang.specs.declared.mode.LexerMode.{LexerMode}
use Rattle.dt_lang.specs.declared.mode.LexerMode.TheVariants as mode
use Rattle.dt_lang.specs.declared.piece.Piece.{Piece}
use Rattle.dt_lang.specs.declared.piece.Piece.TheVariants as piece
use Rattle.dt_lang.specs.declared.token.Token.{Token}
use Rattle.dt_lang.specs.laws.Fronts.{front_of}
use Rattle.dt_lang.specs.laws.Heads.{head_fits, one_byte_sign}
use Rattle.dt_lang.specs.laws.Lists.{some_length}

head_some : (bytes : List ℕ) (found : Piece) → IsHeadPiece bytes found → 1 ≤ length bytes
head_some bytes found h = elim (head_fits bytes found h) [
  | inl k ↦ some_length bytes k.some
  | inr k ↦ elim k [
    | inl s ↦
        let len = ap (λ (b : List ℕ). length b) s.cut in
        let one = one_byte_sign s.s s.heads in omega arith
    | inr o ↦ let len = ap (λ (b : List ℕ). length b) o.cut in omega arith
  ]
]

body_some : (bytes : List ℕ) (found : Piece) → IsBodyPiece bytes found → 1 ≤ length bytes
body_some bytes found h = some_length bytes (front_of bytes found h).some

pub piece_some : (m : LexerMode) (bytes : List ℕ) (found : Piece) → IsPiece m bytes found → 1 ≤ length bytes
piece_some mode.Head bytes found h = head_some bytes found h
piece_some mode.Tail bytes found h = head_some bytes found h
piece_some (mode.Predicate depth) bytes found h = body_some bytes found h
piece_some mode.Body bytes found h = body_some bytes found h

overlong_size : (m : LexerMode) (bytes : List ℕ) (limit : Limit) (size : ℕ) → IsPiece m bytes (piece.Overlong limit size)
    → size ≡ length bytes
overlong_size mode.Head bytes limit size h = absurd h
overlong_size mode.Tail bytes limit size h = absurd h
overlong_size (mode.Predicate depth) bytes limit size h = h.1
overlong_size mode.Body bytes limit size h = h.1

token_size : (m : LexerMode) (bytes : List ℕ) (t : Token) (size : ℕ) → IsPiece m bytes (piece.Token t size)
    → size ≡ length bytes
token_size mode.Head bytes t size h = h.1
token_size mode.Tail bytes t size h = h.1
token_size (mode.Predicate depth) bytes t size h = h.1
token_size mode.Body bytes t size h = h.1

pub record Within (text : List ℕ) (size : ℕ) : Type 0 where
  pub some : 1 ≤ size
  pub fits : size ≤ length text

pub token_within : (m : LexerMode) (text : List ℕ) (t : Token) (size : ℕ) → Stands m text (piece.Token t size)
    → Within text size
token_within m [] t size e = cc
token_within m (byte ∷ rest) t size (inl l) =
    let same = token_size m l.bytes t size l.is in
    let one = piece_some m l.bytes (piece.Token t size) l.is in
    let cut = ap (λ (s : List ℕ). length s) l.cut in
    let len = length-append l.bytes l.rest in
    record { some = omega arith; fits = omega arith }
token_within m (byte ∷ rest) t size (inr n) = let bad = n.0 in cc

pub overlong_within : (m : LexerMode) (text : List ℕ) (limit : Limit) (size : ℕ) → Stands m text (piece.Overlong limit size)
    → Within text size
overlong_within m [] limit size e = cc
overlong_within m (byte ∷ rest) limit size (inl l) =
    let same = overlong_size m l.bytes limit size l.is in
    let one = piece_some m l.bytes (piece.Overlong limit size) l.is in
    let cut = ap (λ (s : List ℕ). length s) l.cut in
    let len = length-append l.bytes l.rest in
    record { some = omega arith; fits = omega arith }
overlong_within m (byte ∷ rest) limit size (inr n) = let bad = n.0 in cc
