-- Bytes are one piece at most.
use Rattle.std.proofs.Common.{◌≡◌, ℕ, ◌⊎◌, inl, inr, List, [], ◌∷◌, ◌++◌, Result, Ok, Err, length, get_or, refl, sym}
use Rattle.std.proofs.Common.{ap, ◌∙◌, subst, arith, pos, length-append}
use Rattle.std.proofs.lemmas.Bool.{false≢true}
use Rattle.std.specs.List.{AllPass}
use Rattle.std.specs.Char.{digit_value}
use Rattle.std.specs.Str.Parse.{digits_value, AllDigits}
use Rattle.dt_expr.specs.Operators.{wrapped}
use Rattle.dt_program.specs.Description.{DescForm, form_of_description, ReadsDescription}
use Rattle.dt_program.specs.declared.description.Description.{Description}
use Rattle.dt_program.specs.declared.description.DescriptionFault.{DescriptionFault}
use Rattle.dt_lang.specs.Class.{is_string_byte, is_description_byte}
use Rattle.dt_lang.specs.Lexeme.{IsBodyPiece, IsDescriptionToken, IsHeadPiece, IsPiece, Stands}
use Rattle.dt_lang.specs.Number.{IsNumber, IsDecimal, IsOctal, IsHexadecimal}
use Rattle.dt_lang.specs.machine.Piece.{start_of, NumberOf, aggregation_read}
use Rattle.dt_lang.specs.declared.mode.LexerMode.{LexerMode}
use Rattle.dt_lang.specs.declared.mode.LexerMode.TheVariants as mode
use Rattle.dt_lang.specs.declared.piece.Piece.{Piece}
use Rattle.dt_lang.specs.declared.piece.Piece.TheVariants as piece
use Rattle.dt_lang.specs.declared.piece.Start.{Start}
use Rattle.dt_lang.specs.declared.piece.Start.TheVariants as start
use Rattle.dt_lang.specs.declared.token.Token.{Token}
use Rattle.dt_lang.specs.declared.token.Token.TheVariants as token
use Rattle.dt_lang.specs.laws.Fronts.{Closed, Open, Fits, front_of}
use Rattle.dt_lang.specs.laws.Heads.{Described, Signed, Opening, head_fits, first_described, sign_byte}
use Rattle.dt_lang.specs.laws.Lists.{tails, last_of}
use Rattle.dt_lang.specs.laws.Names.{same_sign, no_opening, one_word}

-- an octal number has no `x`
pub no_x : (bytes digits more : List ℕ) (radix x : ℕ) → digit_value x ≡ 33 → IsOctal bytes radix digits
    → AllDigits radix digits → bytes ≡ 48 ∷ x ∷ more → ⊥
no_x bytes digits more radix x big o all e =
    let same = (tails 48 48 digits (x ∷ more) (sym o.cut ∙ e)).1 in
    let h : AllDigits 8 (x ∷ more) = subst (λ r. AllDigits r (x ∷ more)) o.base (subst (AllDigits radix) same all) in
    let small = h.0 in omega arith

-- the forms of a number
abbrev pub Written : List ℕ → ℕ → List ℕ → Type 0
Written bytes radix digits =
    IsDecimal bytes radix digits ⊎ (IsOctal bytes radix digits ⊎ IsHexadecimal bytes radix digits)

pub no_zero : (bytes digits more : List ℕ) (radix : ℕ) → IsDecimal bytes radix digits → bytes ≡ 48 ∷ more → ⊥
no_zero bytes digits more radix d e = d.leads (ap (λ (s : List ℕ). get_or s 0 0) e)

pub same_hexadecimal : (bytes : List ℕ) (r s : ℕ) (a b : List ℕ) → IsHexadecimal bytes r a → IsHexadecimal bytes s b
    → a ≡ b
same_hexadecimal bytes r s a b h k = elim h.cut [
  | inl x ↦ elim k.cut [
    | inl y ↦ (tails 120 120 a b (tails 48 48 _ _ (sym x ∙ y)).1).1
    | inr y ↦ let bad = (tails 120 88 a b (tails 48 48 _ _ (sym x ∙ y)).1).0 in absurd (omega arith)
  ]
  | inr x ↦ elim k.cut [
    | inl y ↦ let bad = (tails 88 120 a b (tails 48 48 _ _ (sym x ∙ y)).1).0 in absurd (omega arith)
    | inr y ↦ (tails 88 88 a b (tails 48 48 _ _ (sym x ∙ y)).1).1
  ]
]

octal_or_hexadecimal : (bytes : List ℕ) (r s : ℕ) (a b : List ℕ) → IsOctal bytes r a → AllDigits r a
    → IsHexadecimal bytes s b → ⊥
octal_or_hexadecimal bytes r s a b o all h = elim h.cut [
  | inl x ↦ no_x bytes a b r 120 refl o all x
  | inr x ↦ no_x bytes a b r 88 refl o all x
]

decimal_or_hexadecimal : (bytes : List ℕ) (r s : ℕ) (a b : List ℕ) → IsDecimal bytes r a → IsHexadecimal bytes s b → ⊥
decimal_or_hexadecimal bytes r s a b d h = elim h.cut [
  | inl x ↦ no_zero bytes a (120 ∷ b) r d x
  | inr x ↦ no_zero bytes a (88 ∷ b) r d x
]

same_written : (bytes : List ℕ) (r s : ℕ) (a b : List ℕ) → Written bytes r a → AllDigits r a → Written bytes s b
    → AllDigits s b → (r ≡ s) × (a ≡ b)
same_written bytes r s a b (inl d) p (inl e) q = (d.base ∙ sym e.base, d.cut ∙ sym e.cut)
same_written bytes r s a b (inl d) p (inr (inl e)) q = absurd (no_zero bytes a b r d e.cut)
same_written bytes r s a b (inl d) p (inr (inr e)) q = absurd (decimal_or_hexadecimal bytes r s a b d e)
same_written bytes r s a b (inr (inl d)) p (inl e) q = absurd (no_zero bytes b a s e d.cut)
same_written bytes r s a b (inr (inl d)) p (inr (inl e)) q =
    (d.base ∙ sym e.base, (tails 48 48 a b (sym d.cut ∙ e.cut)).1)
same_written bytes r s a b (inr (inl d)) p (inr (inr e)) q = absurd (octal_or_hexadecimal bytes r s a b d p e)
same_written bytes r s a b (inr (inr d)) p (inl e) q = absurd (decimal_or_hexadecimal bytes s r b a e d)
same_written bytes r s a b (inr (inr d)) p (inr (inl e)) q = absurd (octal_or_hexadecimal bytes s r b a e q d)
same_written bytes r s a b (inr (inr d)) p (inr (inr e)) q = (d.base ∙ sym e.base, same_hexadecimal bytes r s a b d e)

pub one_number : (bytes : List ℕ) (n m : ℕ) → IsNumber bytes n → IsNumber bytes m → n ≡ m
one_number bytes n m h k =
    let same = same_written bytes h.radix k.radix h.digits k.digits h.written h.all k.written k.all in
    h.value ∙ ap (λ r. digits_value r h.digits) same.0 ∙ ap (λ (d : List ℕ). digits_value k.radix d) same.1
    ∙ sym k.value

same_number : (run : List ℕ) (f g : Piece) → NumberOf run f → NumberOf run g → f ≡ g
same_number run (piece.Token t a) (piece.Token u b) (n, h, et, ea) (m, k, eu, eb) =
    let same = one_number run n m h k in
    ap (λ (v : Token). piece.Token v a) (et ∙ ap (λ x. token.Number (wrapped (pos x))) same ∙ sym eu)
    ∙ ap (λ x. piece.Token u x) (ea ∙ sym eb)
same_number run (piece.Token t a) piece.Stray (n, h, et, ea) none = absurd (none n h)
same_number run piece.Stray (piece.Token u b) none (m, k, eu, eb) = absurd (none m k)
same_number run piece.Stray piece.Stray h k = refl
same_number run (piece.Overlong limit size) g h k = absurd h
same_number run piece.End g h k = absurd h
same_number run (piece.Token t a) (piece.Overlong limit size) h k = absurd k
same_number run (piece.Token t a) piece.End h k = absurd k
same_number run piece.Stray (piece.Overlong limit size) h k = absurd k
same_number run piece.Stray piece.End h k = absurd k

-- texts
same_inside : (a b : List ℕ) (x : ℕ) → a ++ (x ∷ []) ≡ b ++ (x ∷ []) → a ≡ b
same_inside [] [] x e = refl
same_inside [] (y ∷ ys) x e =
    let f = ap (λ (s : List ℕ). length s) e in let g = length-append ys (x ∷ []) in absurd (omega arith)
same_inside (y ∷ ys) [] x e =
    let f = ap (λ (s : List ℕ). length s) e in let g = length-append ys (x ∷ []) in absurd (omega arith)
same_inside (y ∷ ys) (z ∷ zs) x e =
    let t = tails y z _ _ e in
    ap (λ v. v ∷ ys) t.0 ∙ ap (λ (r : List ℕ). z ∷ r) (same_inside ys zs x t.1)

-- a text that is too long has no quote in it
closed_or_open : (bytes a b : List ℕ) (f g : Piece) → AllPass is_string_byte b → Closed bytes a f → Open bytes b g → ⊥
closed_or_open bytes a b f g all c o =
    let inside = (tails 34 34 _ _ (sym c.cut ∙ o.cut)).1 in
    let len = ap (λ (s : List ℕ). length s) inside in
    let more = length-append a (34 ∷ []) in
    let quote : get_or b (length a) 0 ≡ 34 =
    ap (λ (s : List ℕ). get_or s (length a) 0) (sym inside) ∙ last_of a 34 [] in
    false≢true (ap is_string_byte (sym quote) ∙ all (length a) 0 (omega arith))

same_text : (bytes a b : List ℕ) (f g : Piece) → AllPass is_string_byte a → AllPass is_string_byte b
    → Closed bytes a f ⊎ Open bytes a f → Closed bytes b g ⊎ Open bytes b g → f ≡ g
same_text bytes a b f g p q (inl c) (inl d) =
    let same = same_inside a b 34 (tails 34 34 _ _ (sym c.cut ∙ d.cut)).1 in
    c.is ∙ ap (λ (t : List ℕ). piece.Token (token.String t) (length bytes)) same ∙ sym d.is
same_text bytes a b f g p q (inl c) (inr o) = absurd (closed_or_open bytes a b f g q c o)
same_text bytes a b f g p q (inr o) (inl c) = absurd (closed_or_open bytes b a g f p c o)
same_text bytes a b f g p q (inr c) (inr d) = c.is ∙ sym d.is

same_fits : (s : Start) (bytes : List ℕ) (f g : Piece) → Fits s bytes f → Fits s bytes g → f ≡ g
same_fits start.Letter bytes f g (p, (w, isw, e)) (q, (v, isv, d)) =
    e ∙ ap (λ x. piece.Token (token.Word x) (length bytes)) (one_word bytes w v isw isv) ∙ sym d
same_fits start.Digit bytes f g (p, h) (q, k) = same_number bytes f g h k
same_fits start.Quote bytes f g (a, p, h) (b, q, k) = same_text bytes a b f g p q h k
same_fits start.At bytes f g (a, cut, p, e) (b, also, q, d) =
    e ∙ ap aggregation_read (tails 64 64 a b (sym cut ∙ also)).1 ∙ sym d
same_fits start.Other bytes f g (inl (s, cut, e)) (inl (t, also, d)) =
    e ∙ ap (λ x. piece.Token (token.Sign x) (length bytes)) (same_sign s t (sym cut ∙ also)) ∙ sym d
same_fits start.Other bytes f g (inl (s, cut, e)) (inr (also, d)) = absurd (no_opening s (sym cut ∙ also))
same_fits start.Other bytes f g (inr (cut, e)) (inl (t, also, d)) = absurd (no_opening t (sym also ∙ cut))
same_fits start.Other bytes f g (inr (cut, e)) (inr (also, d)) = e ∙ sym d

same_in_body : (bytes : List ℕ) (f g : Piece) → IsBodyPiece bytes f → IsBodyPiece bytes g → f ≡ g
same_in_body bytes f g h k =
    same_fits (start_of (get_or bytes 0 0)) bytes f g (front_of bytes f h).fits (front_of bytes g k).fits

-- heads
same_description : (d e : Description) → form_of_description d ≡ form_of_description e → d ≡ e
same_description d e h =
    ap (λ (f : DescForm).
    record { provider = f.provider; «module» = f.module; function = f.function; name = f.name }) h

described_or_signed : (bytes : List ℕ) (f g : Piece) → Described bytes f → Signed bytes g → ⊥
described_or_signed bytes f g d s =
    false≢true (sym (sign_byte s.s s.heads).1 ∙ ap (λ (b : List ℕ). is_description_byte (get_or b 0 0)) (sym s.cut)
    ∙ first_described bytes d.some d.all)

described_or_opening : (bytes : List ℕ) (f g : Piece) → Described bytes f → Opening bytes g → ⊥
described_or_opening bytes f g d o =
    false≢true (ap (λ (b : List ℕ). is_description_byte (get_or b 0 0)) (sym o.cut)
    ∙ first_described bytes d.some d.all)

module _ (one_description : (text : List ℕ) (a b : Result DescForm DescriptionFault) → ReadsDescription text a
    → ReadsDescription text b → a ≡ b) where
  same_token : (bytes : List ℕ) (a b : Result Description DescriptionFault) → IsDescriptionToken bytes a
      → IsDescriptionToken bytes b → a ≡ b
  same_token bytes (Ok a) (Ok b) h k =
      let same = one_description bytes (Ok (form_of_description a)) (Ok (form_of_description b)) h k in
      ap Ok (same_description a b (cc))
  same_token bytes (Ok a) (Err b) h k =
      let same = one_description bytes (Ok (form_of_description a)) (Err b) h k in cc
  same_token bytes (Err a) (Ok b) h k =
      let same = one_description bytes (Err a) (Ok (form_of_description b)) h k in cc
  same_token bytes (Err a) (Err b) h k =
      let same = one_description bytes (Err a) (Err b) h k in ap Err (cc)

  same_in_head : (bytes : List ℕ) (f g : Piece) → IsHeadPiece bytes f → IsHeadPiece bytes g → f ≡ g
  same_in_head bytes f g h k = elim (head_fits bytes f h) [
    | inl a ↦ elim (head_fits bytes g k) [
      | inl b ↦
          a.is ∙ ap (λ x. piece.Token (token.Description x) (length bytes))
          (same_token bytes a.description b.description a.reads b.reads) ∙ sym b.is
      | inr x ↦ elim x [
        | inl b ↦ absurd (described_or_signed bytes f g a b)
        | inr b ↦ absurd (described_or_opening bytes f g a b)
      ]
    ]
    | inr y ↦ elim y [
      | inl a ↦ elim (head_fits bytes g k) [
        | inl b ↦ absurd (described_or_signed bytes g f b a)
        | inr x ↦ elim x [
          | inl b ↦
              a.is ∙ ap (λ z. piece.Token (token.Sign z) (length bytes)) (same_sign a.s b.s (sym a.cut ∙ b.cut))
              ∙ sym b.is
          | inr b ↦ absurd (no_opening a.s (sym a.cut ∙ b.cut))
        ]
      ]
      | inr a ↦ elim (head_fits bytes g k) [
        | inl b ↦ absurd (described_or_opening bytes g f b a)
        | inr x ↦ elim x [
          | inl b ↦ absurd (no_opening b.s (sym b.cut ∙ a.cut))
          | inr b ↦ a.is ∙ sym b.is
        ]
      ]
    ]
  ]

  same_piece : (m : LexerMode) (bytes : List ℕ) (f g : Piece) → IsPiece m bytes f → IsPiece m bytes g → f ≡ g
  same_piece mode.Head bytes f g h k = same_in_head bytes f g h k
  same_piece mode.Tail bytes f g h k = same_in_head bytes f g h k
  same_piece (mode.Predicate depth) bytes f g h k = same_in_body bytes f g h k
  same_piece mode.Body bytes f g h k = same_in_body bytes f g h k

  same_front : (a b r s : List ℕ) → a ++ r ≡ b ++ s → length a ≡ length b → a ≡ b
  same_front [] [] r s e n = refl
  same_front [] (y ∷ ys) r s e n = absurd (omega arith)
  same_front (x ∷ xs) [] r s e n = absurd (omega arith)
  same_front (x ∷ xs) (y ∷ ys) r s e n =
      let t = tails x y _ _ e in
      ap (λ v. v ∷ xs) t.0 ∙ ap (λ (u : List ℕ). y ∷ u) (same_front xs ys r s t.1 (omega arith))

  pub one_piece : (m : LexerMode) (text : List ℕ) (f g : Piece) → Stands m text f → Stands m text g → f ≡ g
  one_piece m [] f g h k = h ∙ sym k
  one_piece m (byte ∷ rest) f g (inl h) (inl k) =
      let le = h.longest k.bytes k.rest g k.cut k.is in
      let ge = k.longest h.bytes h.rest f h.cut h.is in
      let same = same_front h.bytes k.bytes h.rest k.rest (sym h.cut ∙ k.cut) (omega arith) in
      same_piece m h.bytes f g h.is (subst (λ (b : List ℕ). IsPiece m b g) (sym same) k.is)
  one_piece m (byte ∷ rest) f g (inl h) (inr k) = absurd (k.1 h.bytes h.rest f h.cut h.is)
  one_piece m (byte ∷ rest) f g (inr h) (inl k) = absurd (h.1 k.bytes k.rest g k.cut k.is)
  one_piece m (byte ∷ rest) f g (inr h) (inr k) = h.0 ∙ sym k.0
