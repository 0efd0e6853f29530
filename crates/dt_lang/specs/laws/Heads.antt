-- What is found in a head is the longest piece.
use Rattle.std.proofs.Common.{◌≡◌, ◌≢◌, ℕ, ◌<◌, ◌⊎◌, inl, inr, Bool, true, false, cond, eqb, List, [], ◌∷◌, ◌++◌}
use Rattle.std.proofs.Common.{Result, length, drop, get_or, refl, sym, ap, ◌∙◌, subst, arith}
use Rattle.std.proofs.lemmas.Bool.{false≢true, eqb-true}
use Rattle.std.specs.List.{take_while, AllPass}
use Rattle.dt_program.specs.declared.description.Description.{Description}
use Rattle.dt_program.specs.declared.description.DescriptionFault.{DescriptionFault}
use Rattle.dt_lang.specs.Class.{is_description_byte}
use Rattle.dt_lang.specs.Lexeme.{IsHeadSign, OPENING, IsDescriptionToken, IsHeadPiece}
use Rattle.dt_lang.specs.machine.Piece.{head_sign, FindsDescription, FindsRun, FindsInHead, opens_comment}
use Rattle.dt_lang.specs.Spelling.{spelling}
use Rattle.dt_lang.specs.declared.piece.Piece.{Piece}
use Rattle.dt_lang.specs.declared.piece.Piece.TheVariants as piece
use Rattle.dt_lang.specs.declared.token.Sign.{Sign}
use Rattle.dt_lang.specs.declared.token.Sign.TheVariants as sign
use Rattle.dt_lang.specs.declared.token.Token.TheVariants as token
use Rattle.dt_lang.specs.laws.Bodies.{Top, NoTop, Tops, not_opening, behind_byte}
use Rattle.dt_lang.specs.laws.Lists.{some_length, first_of}
use Rattle.dt_lang.specs.laws.Runs.{truth_of, run_at_least, run_passes, run_cut, behind_run, run_begins}
use Rattle.dt_lang.specs.laws.Starts.{described_byte, byte_described}

pub record Described (bytes : List ℕ) (found : Piece) : Type 0 where
  pub description : Result Description DescriptionFault
  pub some : bytes ≢ []
  pub all : AllPass is_description_byte bytes
  pub reads : IsDescriptionToken bytes description
  pub is : found ≡ piece.Token (token.Description description) (length bytes)

pub record Signed (bytes : List ℕ) (found : Piece) : Type 0 where
  pub s : Sign
  pub cut : bytes ≡ spelling s
  pub heads : IsHeadSign s
  pub is : found ≡ piece.Token (token.Sign s) (length bytes)

pub record Opening (bytes : List ℕ) (found : Piece) : Type 0 where
  pub cut : bytes ≡ OPENING
  pub is : found ≡ piece.Stray

-- what a piece of a head is
abbrev pub HeadFits : List ℕ → Piece → Type 0
HeadFits bytes found = Described bytes found ⊎ (Signed bytes found ⊎ Opening bytes found)

pub head_fits : (bytes : List ℕ) (found : Piece) → IsHeadPiece bytes found → HeadFits bytes found
head_fits bytes (piece.Token (token.Description d) size) (t, e) = inl (record {
  description = d;
  some = t.0;
  all = λ k e below. byte_described _ (t.1 k e below);
  reads = t.2;
  is = ap (λ n. piece.Token (token.Description d) n) e;
})
head_fits bytes (piece.Token (token.Sign s) size) (t, e) =
    inr (inl (record { s = s; cut = t.0; heads = t.1; is = ap (λ n. piece.Token (token.Sign s) n) e }))
head_fits bytes (piece.Token _ size) (t, e) = absurd t
head_fits bytes piece.Stray e = inr (inr (record { cut = e; is = refl }))
head_fits bytes (piece.Overlong limit size) h = absurd h
head_fits bytes piece.End h = absurd h

pub one_byte_sign : (s : Sign) → IsHeadSign s → length (spelling s) ≡ 1
one_byte_sign sign.Comma h = refl
one_byte_sign sign.Slash h = refl
one_byte_sign sign.OpenBrace h = refl
one_byte_sign _ h = absurd h

-- the sign that a head's byte is
pub sign_byte : (s : Sign) → IsHeadSign s
    → (head_sign (get_or (spelling s) 0 0) ≡ piece.Token (token.Sign s) 1)
    × (is_description_byte (get_or (spelling s) 0 0) ≡ false)
sign_byte sign.Comma h = (refl, refl)
sign_byte sign.Slash h = (refl, refl)
sign_byte sign.OpenBrace h = (refl, refl)
sign_byte _ h = absurd h

pub first_described : (bytes : List ℕ) → bytes ≢ [] → AllPass is_description_byte bytes
    → is_description_byte (get_or bytes 0 0) ≡ true
first_described [] n h = absurd (n refl)
first_described (x ∷ xs) n h = h 0 0 (omega arith)

spelled_some : (s : Sign) → IsHeadSign s → spelling s ≢ []
spelled_some s h e = let f = one_byte_sign s h in let g = ap (λ (t : List ℕ). length t) e in omega arith

signed_length : (front : List ℕ) (other : Piece) → Signed front other → length front ≡ 1
signed_length front other k = ap (λ (f : List ℕ). length f) k.cut ∙ one_byte_sign k.s k.heads

-- where a description stands
description_top : (text : List ℕ) (found : Piece) → opens_comment text ≡ false
    → take_while is_description_byte text ≢ [] → FindsDescription (take_while is_description_byte text) found
    → Top IsHeadPiece text found
description_top text found shut some (d, reads, e) =
    subst (Top IsHeadPiece text) (sym e) (record {
      bytes = take_while is_description_byte text;
      rest = behind_run is_description_byte text;
      cut = run_cut is_description_byte text;
      is =
          ((some, λ k x below. described_byte _ (run_passes is_description_byte text k x below), reads), refl);
      longest = λ front behind other cut p. elim (head_fits front other p) [
        | inl k ↦ run_at_least is_description_byte text front behind cut k.all
        | inr k ↦ elim k [
          | inl s ↦
              let one = signed_length front other s in
              let least = some_length (take_while is_description_byte text) some in omega arith
          | inr o ↦ absurd (not_opening text behind front shut cut o.cut)
        ]
      ];
    })

-- where none stands
module _ (text : List ℕ) (some : 0 < length text) (shut : opens_comment text ≡ false)
    (undescribed : is_description_byte (get_or text 0 0) ≡ false) where
  no_description : (front behind : List ℕ) (other : Piece) → text ≡ front ++ behind → Described front other → ⊥
  no_description front behind other cut k =
      let first = first_of text front behind k.some cut in
      false≢true (sym undescribed ∙ ap is_description_byte first ∙ first_described front k.some k.all)

  signed_top : (s : Sign) (found : Piece) → IsHeadSign s → text ≡ spelling s ++ drop 1 text
      → found ≡ piece.Token (token.Sign s) 1 → Top IsHeadPiece text found
  signed_top s found heads cut e = subst (Top IsHeadPiece text) (sym e) (record {
    bytes = spelling s;
    rest = drop 1 text;
    cut = cut;
    is = ((refl, heads), sym (one_byte_sign s heads));
    longest = λ front behind other c p. elim (head_fits front other p) [
      | inl k ↦ absurd (no_description front behind other c k)
      | inr k ↦ elim k [
        | inl t ↦
            let one = signed_length front other t in let own = one_byte_sign s heads in omega arith
        | inr o ↦ absurd (not_opening text behind front shut c o.cut)
      ]
    ];
  })

  no_sign : (found : Piece) → head_sign (get_or text 0 0) ≡ piece.Stray → NoTop IsHeadPiece text
  no_sign found e front behind other cut p = elim (head_fits front other p) [
    | inl k ↦ no_description front behind other cut k
    | inr k ↦ elim k [
      | inl t ↦
          let begins = first_of text (spelling t.s) behind (spelled_some t.s t.heads)
          (cut ∙ ap (λ (f : List ℕ). f ++ behind) t.cut) in
          let bad : piece.Stray ≡ piece.Token (token.Sign t.s) 1 =
          sym e ∙ ap head_sign begins ∙ (sign_byte t.s t.heads).0 in cc
      | inr o ↦ not_opening text behind front shut cut o.cut
    ]
  ]

  byte_top : (s : Sign) (byte : ℕ) (found : Piece) → IsHeadSign s → byte ≢ 0 → spelling s ≡ byte ∷ []
      → eqb (get_or text 0 0) byte ≡ true → head_sign byte ≡ piece.Token (token.Sign s) 1
      → found ≡ head_sign (get_or text 0 0) → Tops IsHeadPiece text found
  byte_top s byte found heads n spelled e is f =
      let first = eqb-true (get_or text 0 0) byte e in
      inl (signed_top s found heads
      (behind_byte text byte n first ∙ ap (λ (t : List ℕ). t ++ drop 1 text) (sym spelled))
      (f ∙ ap head_sign first ∙ is))

  pub undescribed_top : (found : Piece) → found ≡ head_sign (get_or text 0 0) → Tops IsHeadPiece text found
  undescribed_top found e = elim (truth_of (eqb (get_or text 0 0) 44)) [
    | inl k ↦ byte_top sign.Comma 44 found tt (λ z. omega arith) refl k refl e
    | inr a ↦ elim (truth_of (eqb (get_or text 0 0) 47)) [
      | inl k ↦ byte_top sign.Slash 47 found tt (λ z. omega arith) refl k refl e
      | inr b ↦ elim (truth_of (eqb (get_or text 0 0) 123)) [
        | inl k ↦ byte_top sign.OpenBrace 123 found tt (λ z. omega arith) refl k refl e
        | inr c ↦ let stray = no_pick _ _ _ a b c in inr (e ∙ stray, no_sign found stray)
      ]
    ]
  ]
    where
      no_pick : (a b c : Bool) → a ≡ false → b ≡ false → c ≡ false
          → cond a (piece.Token (token.Sign sign.Comma) 1) (cond b (piece.Token (token.Sign sign.Slash) 1)
          (cond c (piece.Token (token.Sign sign.OpenBrace) 1) piece.Stray)) ≡ piece.Stray
      no_pick false false false p q r = refl
      no_pick true b c p q r = absurd (false≢true (sym p))
      no_pick false true c p q r = absurd (false≢true (sym q))
      no_pick false false true p q r = absurd (false≢true (sym r))

run_top : (run text : List ℕ) (found : Piece) → run ≡ take_while is_description_byte text → 0 < length text
    → opens_comment text ≡ false → FindsRun run text found → Tops IsHeadPiece text found
run_top [] text found is some shut e = undescribed_top text some shut (unbegun text is some) found e
  where
    unbegun : (text : List ℕ) → [] ≡ take_while is_description_byte text → 0 < length text
        → is_description_byte (get_or text 0 0) ≡ false
    unbegun [] is some = absurd (omega arith)
    unbegun (x ∷ xs) is some = elim (truth_of (is_description_byte x)) [
      | inl h ↦ absurd ((run_begins is_description_byte x xs h).0 (sym is))
      | inr h ↦ h
    ]
run_top (byte ∷ run) text found is some shut h =
    inl (description_top text found shut (λ e. let bad : byte ∷ run ≡ [] = is ∙ e in cc)
    (subst (λ (r : List ℕ). FindsDescription r found) is h))

pub head_top : (text : List ℕ) (found : Piece) → 0 < length text → opens_comment text ≡ false
    → FindsInHead text found → Tops IsHeadPiece text found
head_top text found some shut h = run_top (take_while is_description_byte text) text found refl some shut h

-- where a comment begins, its beginning is the longest piece
pub comment_head : (text behind : List ℕ) → text ≡ OPENING ++ behind → Top IsHeadPiece text piece.Stray
comment_head text behind e = record {
  bytes = OPENING;
  rest = behind;
  cut = e;
  is = refl;
  longest = λ front back other cut p.
      let first : get_or text 0 0 ≡ 47 = ap (λ (s : List ℕ). get_or s 0 0) e in
      elim (head_fits front other p) [
        | inl k ↦
            let same = first_of text front back k.some cut in
            absurd (false≢true (ap is_description_byte (sym first ∙ same) ∙ first_described front k.some k.all))
        | inr k ↦ elim k [
          | inl t ↦ let one = signed_length front other t in omega arith
          | inr o ↦ let len = ap (λ (f : List ℕ). length f) o.cut in omega arith
        ]
      ];
}
