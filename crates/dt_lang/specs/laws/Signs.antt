-- Signs of two bytes and of one.
use Rattle.std.proofs.Common.{◌≡◌, ℕ, ◌≤◌, ◌⊎◌, inl, inr, Bool, true, eqb, List, Option, Some, None, IfSome, IfNone}
use Rattle.std.proofs.Common.{length, refl, arith}
use Rattle.std.specs.List.{All, list_all, Contains}
use Rattle.std.proofs.lemmas.Bool.{eqb-true}
use Rattle.std.proofs.lemmas.List.Elements.{All-contains}
use Rattle.std.proofs.lemmas.List.Sums.{AllPass-from_list_all}
use Rattle.dt_lang.specs.machine.Piece.{BeginsWith, IsSignAt}
use Rattle.dt_lang.specs.Spelling.{spelling}
use Rattle.dt_lang.specs.declared.sign.TheConstants.{PAIRS, SINGLES}
use Rattle.dt_lang.specs.declared.token.Sign.{Sign}
use Rattle.dt_lang.specs.declared.token.Sign.TheVariants as sign

-- each sign is listed
listed : (s : Sign) → Contains PAIRS s ⊎ Contains SINGLES s
listed sign.OrOr = inl (0, omega arith, refl)
listed sign.CaretCaret = inl (1, omega arith, refl)
listed sign.AndAnd = inl (2, omega arith, refl)
listed sign.LessLess = inl (3, omega arith, refl)
listed sign.GreaterGreater = inl (4, omega arith, refl)
listed sign.LessEqual = inl (5, omega arith, refl)
listed sign.GreaterEqual = inl (6, omega arith, refl)
listed sign.EqualEqual = inl (7, omega arith, refl)
listed sign.BangEqual = inl (8, omega arith, refl)
listed sign.Arrow = inl (9, omega arith, refl)
listed sign.Or = inr (0, omega arith, refl)
listed sign.Caret = inr (1, omega arith, refl)
listed sign.And = inr (2, omega arith, refl)
listed sign.Less = inr (3, omega arith, refl)
listed sign.Greater = inr (4, omega arith, refl)
listed sign.Plus = inr (5, omega arith, refl)
listed sign.Minus = inr (6, omega arith, refl)
listed sign.Star = inr (7, omega arith, refl)
listed sign.Slash = inr (8, omega arith, refl)
listed sign.Percent = inr (9, omega arith, refl)
listed sign.Bang = inr (10, omega arith, refl)
listed sign.Tilde = inr (11, omega arith, refl)
listed sign.OpenParen = inr (12, omega arith, refl)
listed sign.CloseParen = inr (13, omega arith, refl)
listed sign.OpenBracket = inr (14, omega arith, refl)
listed sign.CloseBracket = inr (15, omega arith, refl)
listed sign.OpenBrace = inr (16, omega arith, refl)
listed sign.CloseBrace = inr (17, omega arith, refl)
listed sign.Comma = inr (18, omega arith, refl)
listed sign.Semicolon = inr (19, omega arith, refl)
listed sign.Equal = inr (20, omega arith, refl)

-- a list of signs of so many bytes each
sized : (size : ℕ) (signs : List Sign) → list_all (λ t. eqb (length (spelling t)) size) signs ≡ true → (s : Sign)
    → Contains signs s → length (spelling s) ≡ size
sized size signs all s h =
    let test : Sign → Bool = λ t. eqb (length (spelling t)) size in
    eqb-true (length (spelling s)) size
    (All-contains (λ t. test t ≡ true) signs s (AllPass-from_list_all test signs all) h)

two_bytes : (s : Sign) → Contains PAIRS s → length (spelling s) ≡ 2
two_bytes s h = sized 2 PAIRS refl s h

one_byte : (s : Sign) → Contains SINGLES s → length (spelling s) ≡ 1
one_byte s h = sized 1 SINGLES refl s h

-- the text begins with none of these
abbrev pub BeginsWithNone : List ℕ → List Sign → Type 0
BeginsWithNone text signs = All (λ s. BeginsWith text (spelling s) → ⊥) signs

pub at_most_two : (s : Sign) → length (spelling s) ≤ 2
at_most_two s = elim (listed s) [
  | inl h ↦ let e = two_bytes s h in omega arith
  | inr h ↦ let e = one_byte s h in omega arith
]

pub some_byte : (s : Sign) → 1 ≤ length (spelling s)
some_byte s = elim (listed s) [
  | inl h ↦ let e = two_bytes s h in omega arith
  | inr h ↦ let e = one_byte s h in omega arith
]

pub longest_pair : (text : List ℕ) (s : Sign) → BeginsWith text (spelling s) → Contains PAIRS s → IsSignAt text s
longest_pair text s b h = record {
  begins = b;
  longest = λ other o. let e = two_bytes s h in let f = at_most_two other in omega arith;
}

pub longest_single : (text : List ℕ) (s : Sign) → BeginsWithNone text PAIRS → BeginsWith text (spelling s)
    → Contains SINGLES s → IsSignAt text s
longest_single text s none b h = record {
  begins = b;
  longest = λ other o. let e = one_byte s h in elim (listed other) [
    | inl k ↦ absurd (All-contains (λ t. BeginsWith text (spelling t) → ⊥) PAIRS other none k o)
    | inr k ↦ let f = one_byte other k in omega arith
  ];
}

pub no_sign : (text : List ℕ) → BeginsWithNone text PAIRS → BeginsWithNone text SINGLES
    → (s : Sign) → BeginsWith text (spelling s) → ⊥
no_sign text p q s b = elim (listed s) [
  | inl k ↦ All-contains (λ t. BeginsWith text (spelling t) → ⊥) PAIRS s p k b
  | inr k ↦ All-contains (λ t. BeginsWith text (spelling t) → ⊥) SINGLES s q k b
]

-- what a search among the single ones found
pub some_single : (text : List ℕ) (found : Option Sign) → BeginsWithNone text PAIRS
    → IfSome found (λ s. BeginsWith text (spelling s)) → IfSome found (λ s. Contains SINGLES s)
    → IfSome found (IsSignAt text)
some_single text (Some s) none b h = longest_single text s none b h
some_single text None none b h = tt

pub no_single : (text : List ℕ) (found : Option Sign) → BeginsWithNone text PAIRS
    → IfNone found (BeginsWithNone text SINGLES) → IfNone found ((s : Sign) → BeginsWith text (spelling s) → ⊥)
no_single text (Some s) p q = tt
no_single text None p q = no_sign text p q
