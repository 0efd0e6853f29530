-- What is found by its first byte, in a predicate or a body, is the longest piece.
use Rattle.std.proofs.Common.{◌≡◌, ◌≢◌, ℕ, zero, suc, ◌+◌, ◌<◌, ◌≤◌, ◌⊎◌, inl, inr, Bool, true, false, cond, ltb, eqb}
use Rattle.std.proofs.Common.{List, [], ◌∷◌, ◌++◌, length, drop, get_or, refl, sym, ap, ◌∙◌, subst, arith, append_assoc}
use Rattle.std.proofs.Common.{length-append}
use Rattle.std.proofs.lemmas.Bool.{false≢true, eqb-true, eq-eqb, ltb-true, cases_lt}
use Rattle.std.proofs.lemmas.Bool.Decides.{nat_tests}
use Rattle.std.proofs.lemmas.List.Folds.{length-prefix_len}
use Rattle.std.specs.Char.{is_ascii_digit}
use Rattle.std.specs.List.{take_while, prefix_len, AllPass}
use Rattle.dt_names.specs.declared.short_text.TheConstants.{SHORT_TEXT_MAX}
use Rattle.dt_lang.specs.Class.{is_word_byte, is_string_byte}
use Rattle.dt_lang.specs.Lexeme.{IsIdentifier, IsAggregationName, IsBodyToken, OPENING, IsBodyPiece}
use Rattle.dt_lang.specs.machine.Piece.{start_of, identifier_at, FindsWord, NumberOf, string_piece, aggregation_read, FindsSign}
use Rattle.dt_lang.specs.machine.Piece.{FindsAs, FindsInBody, opens_comment}
use Rattle.dt_lang.specs.Spelling.{spelling}
use Rattle.dt_lang.specs.declared.fault.Limit.TheVariants.{StringBytes}
use Rattle.dt_lang.specs.declared.piece.Piece.{Piece}
use Rattle.dt_lang.specs.declared.piece.Piece.TheVariants as piece
use Rattle.dt_lang.specs.declared.piece.Start.{Start}
use Rattle.dt_lang.specs.declared.piece.Start.TheVariants as start
use Rattle.dt_lang.specs.declared.token.Token.TheVariants as token
use Rattle.dt_lang.specs.laws.Fronts.{Fits, Closed, Open, front_fits, short_aggregation, long_aggregation}
use Rattle.dt_lang.specs.laws.Lists.{tails, first_of, last_of}
use Rattle.dt_lang.specs.laws.Runs.{truth_of, run_at_least, run_exactly, run_passes, run_cut, behind_run, run_begins}
use Rattle.dt_lang.specs.laws.Runs.{run_ends}
use Rattle.dt_lang.specs.laws.Signs.{at_most_two}
use Rattle.dt_lang.specs.laws.Starts.{Starts, starts, word_digit}

-- the longest front that is a piece, whatever pieces are
pub record Top (P : List ℕ → Piece → Type 0) (text : List ℕ) (found : Piece) : Type 0 where
  pub bytes : List ℕ
  pub rest : List ℕ
  pub cut : text ≡ bytes ++ rest
  pub is : P bytes found
  pub longest : (front behind : List ℕ) (other : Piece) → text ≡ front ++ behind → P front other
      → length front ≤ length bytes

abbrev pub NoTop : (List ℕ → Piece → Type 0) → List ℕ → Type 0
NoTop P text = (front behind : List ℕ) (other : Piece) → text ≡ front ++ behind → P front other → ⊥

abbrev pub Tops : (List ℕ → Piece → Type 0) → List ℕ → Piece → Type 0
Tops P text found = Top P text found ⊎ ((found ≡ piece.Stray) × NoTop P text)

-- all fronts of the text that are pieces begin so
abbrev FrontsFit : Start → List ℕ → Type 0
FrontsFit s text = (front behind : List ℕ) (other : Piece) → text ≡ front ++ behind → IsBodyPiece front other
    → Fits s front other

word_run : (text : List ℕ) → 0 < length text → is_word_byte (get_or text 0 0) ≡ true
    → (take_while is_word_byte text ≢ []) × (get_or (take_while is_word_byte text) 0 0 ≡ get_or text 0 0)
word_run [] some h = absurd (omega arith)
word_run (x ∷ xs) some h = run_begins is_word_byte x xs h

undigited : (text : List ℕ) → is_ascii_digit (get_or text 0 0) ≡ false
    → identifier_at text ≡ take_while is_word_byte text
undigited text h = ap (λ b. cond b [] (take_while is_word_byte text)) h

run_identifier : (text : List ℕ) → 0 < length text → is_ascii_digit (get_or text 0 0) ≡ false
    → is_word_byte (get_or text 0 0) ≡ true → IsIdentifier (take_while is_word_byte text)
run_identifier text some digit word =
    let r = word_run text some word in
    record { some = r.0; begins = ap is_ascii_digit r.1 ∙ digit; all = run_passes is_word_byte text }

letter_top : (text : List ℕ) (found : Piece) → 0 < length text → Starts (get_or text 0 0) start.Letter
    → FrontsFit start.Letter text → FindsWord text found → Tops IsBodyPiece text found
letter_top text found some b fronts (w, isw, e) =
    let is = undigited text b.0 in
    inl (subst (Top IsBodyPiece text) (sym e) (record {
      bytes = identifier_at text;
      rest = behind_run is_word_byte text;
      cut = subst (λ (r : List ℕ). text ≡ r ++ behind_run is_word_byte text) (sym is) (run_cut is_word_byte text);
      is = ((subst IsIdentifier (sym is) (run_identifier text some b.0 b.1), isw), refl);
      longest = λ front behind other cut p.
          subst (λ (r : List ℕ). length front ≤ length r) (sym is)
          (run_at_least is_word_byte text front behind cut (fronts front behind other cut p).0);
    }))

number_piece : (run : List ℕ) (found : Piece) → run ≢ [] → is_ascii_digit (get_or run 0 0) ≡ true
    → AllPass is_word_byte run → NumberOf run found → IsBodyPiece run found
number_piece run (piece.Token t size) some digit all (n, num, et, es) =
    (subst (IsBodyToken run) (sym et) (n, num, refl), es)
number_piece run piece.Stray some digit all none = inr (record { some = some; begins = digit; all = all }, none)
number_piece run (piece.Overlong limit size) some digit all h = absurd h
number_piece run piece.End some digit all h = absurd h

digit_top : (text : List ℕ) (found : Piece) → 0 < length text → Starts (get_or text 0 0) start.Digit
    → FrontsFit start.Digit text → NumberOf (take_while is_word_byte text) found → Tops IsBodyPiece text found
digit_top text found some b fronts h =
    let r = word_run text some (word_digit (get_or text 0 0) b) in
    inl (record {
      bytes = take_while is_word_byte text;
      rest = behind_run is_word_byte text;
      cut = run_cut is_word_byte text;
      is = number_piece _ found r.0 (ap is_ascii_digit r.1 ∙ b) (run_passes is_word_byte text) h;
      longest = λ front behind other cut p.
          run_at_least is_word_byte text front behind cut (fronts front behind other cut p).0;
    })

not_above : (m n : ℕ) → ltb m n ≡ false → n ≤ m
not_above m n h = grind (arith, nat_tests)

begins_at : (rest : List ℕ) (n : ℕ) → get_or rest n 0 ≡ 34 → (more : List ℕ) × (drop n rest ≡ 34 ∷ more)
begins_at [] n h = absurd (omega arith)
begins_at (x ∷ xs) zero h = (xs, ap (λ y. y ∷ xs) h)
begins_at (x ∷ xs) (suc n) h = begins_at xs n h

-- texts
pub behind_byte : (text : List ℕ) (x : ℕ) → x ≢ 0 → get_or text 0 0 ≡ x → text ≡ x ∷ drop 1 text
behind_byte [] x n e = absurd (n (sym e))
behind_byte (y ∷ ys) x n e = ap (λ z. z ∷ ys) e

-- how the fronts that are a text's lie after the quote
closed_behind : (rest inside behind : List ℕ) (text front : List ℕ) → text ≡ 34 ∷ rest → text ≡ front ++ behind
    → front ≡ 34 ∷ (inside ++ (34 ∷ [])) → rest ≡ inside ++ (34 ∷ behind)
closed_behind rest inside behind text front q cut e =
    (tails 34 34 _ _ (sym q ∙ cut ∙ ap (λ (f : List ℕ). f ++ behind) e)).1
    ∙ append_assoc inside (34 ∷ []) behind

open_behind : (rest inside behind : List ℕ) (text front : List ℕ) → text ≡ 34 ∷ rest → text ≡ front ++ behind
    → front ≡ 34 ∷ inside → rest ≡ inside ++ behind
open_behind rest inside behind text front q cut e =
    (tails 34 34 _ _ (sym q ∙ cut ∙ ap (λ (f : List ℕ). f ++ behind) e)).1

closed_length : (front inside : List ℕ) → front ≡ 34 ∷ (inside ++ (34 ∷ [])) → length front ≡ length inside + 2
closed_length front inside e =
    let f = ap (λ (s : List ℕ). length s) e in let g = length-append inside (34 ∷ []) in omega arith

open_length : (front inside : List ℕ) (x : ℕ) → front ≡ x ∷ inside → length front ≡ length inside + 1
open_length front inside x e = let f = ap (λ (s : List ℕ). length s) e in omega arith

-- the run after a quote, and what the fronts with a text are to it
module _ (text rest : List ℕ) (quote : text ≡ 34 ∷ rest) (fronts : FrontsFit start.Quote text) where
  quoted_run : List ℕ
  quoted_run = take_while is_string_byte rest

  closed_same : (inside behind front : List ℕ) (other : Piece) → AllPass is_string_byte inside
      → text ≡ front ++ behind → Closed front inside other
      → (length quoted_run ≡ length inside) × (get_or rest (length quoted_run) 0 ≡ 34)
  unfolding quoted_run
  closed_same inside behind front other all cut c =
      let e = closed_behind rest inside behind text front quote cut c.cut in
      let same = run_exactly is_string_byte rest inside 34 behind e all refl in (
        same,
        ap (λ n. get_or rest n 0) same ∙ ap (λ (t : List ℕ). get_or t (length inside) 0) e
            ∙ last_of inside 34 behind,
      )

  open_least : (inside behind front : List ℕ) (other : Piece) → AllPass is_string_byte inside
      → text ≡ front ++ behind → Open front inside other → length inside ≤ length quoted_run
  unfolding quoted_run
  open_least inside behind front other all cut o =
      run_at_least is_string_byte rest inside behind (open_behind rest inside behind text front quote cut o.cut) all

  overlong_top : SHORT_TEXT_MAX < length quoted_run
      → Top IsBodyPiece text (piece.Overlong StringBytes (length quoted_run + 1))
  unfolding quoted_run
  overlong_top long = record {
    bytes = 34 ∷ take_while is_string_byte rest;
    rest = behind_run is_string_byte rest;
    cut = quote ∙ ap (λ (r : List ℕ). 34 ∷ r) (run_cut is_string_byte rest);
    is = (
      record {
        inside = take_while is_string_byte rest;
        begins = (refl, run_passes is_string_byte rest);
        long = long;
      },
      omega arith,
    );
    longest = λ front behind other cut p.
        let f = fronts front behind other cut p in
        elim f.2 [
          | inl c ↦
              let same = (closed_same f.0 behind front other f.1 cut c).0 in
              let short = c.short in absurd (omega arith)
          | inr o ↦
              let least = open_least f.0 behind front other f.1 cut o in
              let len = open_length front f.0 34 o.cut in omega arith
        ];
  }

  closing : get_or rest (length quoted_run) 0 ≡ 34 → (more : List ℕ) × (rest ≡ quoted_run ++ (34 ∷ more))
  unfolding quoted_run
  closing h =
      let n = prefix_len is_string_byte rest in
      let at : length (take_while is_string_byte rest) ≡ n = length-prefix_len is_string_byte rest in
      let byte : get_or rest n 0 ≡ 34 = ap (λ k. get_or rest k 0) (sym at) ∙ h in
      let more = begins_at rest n byte in
      (more.0, run_cut is_string_byte rest ∙ ap (λ (t : List ℕ). take_while is_string_byte rest ++ t) more.1)

  string_top : length quoted_run ≤ SHORT_TEXT_MAX → get_or rest (length quoted_run) 0 ≡ 34
      → Top IsBodyPiece text (piece.Token (token.String quoted_run) (length quoted_run + 2))
  unfolding quoted_run
  string_top short stop =
      let c = closing stop in
      let inside = take_while is_string_byte rest in
      record {
        bytes = 34 ∷ (inside ++ (34 ∷ []));
        rest = c.0;
        cut = quote ∙ ap (λ (r : List ℕ). 34 ∷ r) (c.1 ∙ sym (append_assoc inside (34 ∷ []) c.0));
        is = (
          (refl, run_passes is_string_byte rest, short),
          sym (closed_length (34 ∷ (inside ++ (34 ∷ []))) inside refl),
        );
        longest = λ front behind other cut p.
            let f = fronts front behind other cut p in
            let all = closed_length (34 ∷ (inside ++ (34 ∷ []))) inside refl in
            elim f.2 [
              | inl k ↦
                  let same = (closed_same f.0 behind front other f.1 cut k).0 in
                  let len = closed_length front f.0 k.cut in omega arith
              | inr o ↦
                  let least = open_least f.0 behind front other f.1 cut o in
                  let len = open_length front f.0 34 o.cut in omega arith
            ];
      }

  no_string : length quoted_run ≤ SHORT_TEXT_MAX → get_or rest (length quoted_run) 0 ≢ 34 → NoTop IsBodyPiece text
  unfolding quoted_run
  no_string short stop front behind other cut p =
      let f = fronts front behind other cut p in
      elim f.2 [
        | inl k ↦ stop (closed_same f.0 behind front other f.1 cut k).1
        | inr o ↦
            let least = open_least f.0 behind front other f.1 cut o in
            let long = o.long in omega arith
      ]

  quote_by : (long closed : Bool) → long ≡ ltb SHORT_TEXT_MAX (length quoted_run)
      → closed ≡ eqb (get_or rest (length quoted_run) 0) 34 → (found : Piece)
      → found ≡ cond long (piece.Overlong StringBytes (length quoted_run + 1))
      (cond closed (piece.Token (token.String quoted_run) (length quoted_run + 2)) piece.Stray)
      → Tops IsBodyPiece text found
  quote_by true closed l c found e =
      inl (subst (Top IsBodyPiece text) (sym e) (overlong_top (ltb-true SHORT_TEXT_MAX (length quoted_run) (sym l))))
  quote_by false true l c found e =
      inl (subst (Top IsBodyPiece text) (sym e)
      (string_top (not_above SHORT_TEXT_MAX (length quoted_run) (sym l))
      (eqb-true (get_or rest (length quoted_run) 0) 34 (sym c))))
  quote_by false false l c found e =
      inr (
        e,
        no_string (not_above SHORT_TEXT_MAX (length quoted_run) (sym l))
            (λ k. false≢true (c ∙ eq-eqb (get_or rest (length quoted_run) 0) 34 k)),
      )

  pub quote_top : (found : Piece) → found ≡ string_piece (take_while is_string_byte rest) rest
      → Tops IsBodyPiece text found
  unfolding quoted_run
  quote_top found e =
      quote_by (ltb SHORT_TEXT_MAX (length quoted_run)) (eqb (get_or rest (length quoted_run) 0) 34) refl refl found e

-- aggregations
pub name_at : (rest : List ℕ) → IsAggregationName (identifier_at rest)
name_at [] = inl refl
name_at (x ∷ xs) = elim (truth_of (is_ascii_digit x)) [
  | inl d ↦ inl (ap (λ b. cond b [] (take_while is_word_byte (x ∷ xs))) d)
  | inr d ↦ elim (truth_of (is_word_byte x)) [
    | inl w ↦ inr (subst IsIdentifier (sym (undigited (x ∷ xs) d)) (run_identifier (x ∷ xs) (omega arith) d w))
    | inr w ↦ inl (undigited (x ∷ xs) d ∙ run_ends is_word_byte x xs w)
  ]
]

identifier_least : (rest name behind : List ℕ) → IsIdentifier name → rest ≡ name ++ behind
    → length name ≤ length (identifier_at rest)
identifier_least rest name behind i e =
    let digit = ap is_ascii_digit (first_of rest name behind i.some e) ∙ i.begins in
    subst (λ (r : List ℕ). length name ≤ length r) (sym (undigited rest digit))
    (run_at_least is_word_byte rest name behind e i.all)

name_least : (rest name behind : List ℕ) → IsAggregationName name → rest ≡ name ++ behind
    → length name ≤ length (identifier_at rest)
name_least rest name behind (inl n) e = let f = ap (λ (s : List ℕ). length s) n in omega arith
name_least rest name behind (inr i) e = identifier_least rest name behind i e

identifier_cut : (rest : List ℕ) → (behind : List ℕ) × (rest ≡ identifier_at rest ++ behind)
identifier_cut rest = elim (truth_of (is_ascii_digit (get_or rest 0 0))) [
  | inl d ↦ (rest, ap (λ b. cond b [] (take_while is_word_byte rest) ++ rest) (sym d))
  | inr d ↦ (
    behind_run is_word_byte rest,
    subst (λ (r : List ℕ). rest ≡ r ++ behind_run is_word_byte rest) (sym (undigited rest d))
        (run_cut is_word_byte rest),
  )
]

long_name : (name : List ℕ) → SHORT_TEXT_MAX < length name → IsAggregationName name → IsIdentifier name
long_name name long (inl n) = let f = ap (λ (s : List ℕ). length s) n in absurd (omega arith)
long_name name long (inr i) = i

aggregation_piece : (name : List ℕ) → IsAggregationName name → IsBodyPiece (64 ∷ name) (aggregation_read name)
aggregation_piece name n = elim (cases_lt SHORT_TEXT_MAX (length name)) [
  | inl long ↦ subst (IsBodyPiece (64 ∷ name)) (sym (long_aggregation name long))
      (record { inside = name; begins = (refl, long_name name long n); long = long }, omega arith)
  | inr short ↦ subst (IsBodyPiece (64 ∷ name)) (sym (short_aggregation name short)) ((refl, n, short), omega arith)
]

at_top : (text rest : List ℕ) (found : Piece) → text ≡ 64 ∷ rest → FrontsFit start.At text
    → found ≡ aggregation_read (identifier_at rest) → Tops IsBodyPiece text found
at_top text rest found at fronts e =
    let c = identifier_cut rest in
    inl (subst (Top IsBodyPiece text) (sym e) (record {
      bytes = 64 ∷ identifier_at rest;
      rest = c.0;
      cut = at ∙ ap (λ (r : List ℕ). 64 ∷ r) c.1;
      is = aggregation_piece (identifier_at rest) (name_at rest);
      longest = λ front behind other cut p.
          let f = fronts front behind other cut p in
          let e = (tails 64 64 _ _ (sym at ∙ cut ∙ ap (λ (t : List ℕ). t ++ behind) f.1)).1 in
          let least = name_least rest f.0 behind f.2 e in
          let len = open_length front f.0 64 f.1 in omega arith;
    }))

-- signs
pub not_opening : (text behind front : List ℕ) → opens_comment text ≡ false → text ≡ front ++ behind → front ≢ OPENING
not_opening text behind front shut cut e =
    let begun : opens_comment text ≡ true = ap opens_comment (cut ∙ ap (λ (f : List ℕ). f ++ behind) e) in
    false≢true (sym shut ∙ begun)

sign_top : (text : List ℕ) (found : Piece) → opens_comment text ≡ false → FrontsFit start.Other text
    → FindsSign text found → Tops IsBodyPiece text found
sign_top text (piece.Token t size) shut fronts (s, is, et, es) =
    inl (record {
      bytes = spelling s;
      rest = is.begins.0;
      cut = is.begins.1;
      is = (subst (IsBodyToken (spelling s)) (sym et) refl, es);
      longest = λ front behind other cut p. elim (fronts front behind other cut p) [
        | inl k ↦
            let least = is.longest k.0 (behind, cut ∙ ap (λ (f : List ℕ). f ++ behind) k.1) in
            let len = ap (λ (f : List ℕ). length f) k.1 in omega arith
        | inr k ↦ absurd (not_opening text behind front shut cut k.0)
      ];
    })
sign_top text piece.Stray shut fronts none =
    inr (
      refl,
      λ front behind other cut p. elim (fronts front behind other cut p) [
        | inl k ↦ none k.0 (behind, cut ∙ ap (λ (f : List ℕ). f ++ behind) k.1)
        | inr k ↦ not_opening text behind front shut cut k.0
      ],
    )
sign_top text (piece.Overlong limit size) shut fronts h = absurd h
sign_top text piece.End shut fronts h = absurd h

as_top : (s : Start) (text : List ℕ) (found : Piece) → 0 < length text → opens_comment text ≡ false
    → Starts (get_or text 0 0) s → FrontsFit s text → FindsAs s text found → Tops IsBodyPiece text found
as_top start.Letter text found some shut b fronts h = letter_top text found some b fronts h
as_top start.Digit text found some shut b fronts h = digit_top text found some b fronts h
as_top start.Quote text found some shut b fronts h =
    quote_top text (drop 1 text) (behind_byte text 34 (λ e. omega arith) (eqb-true (get_or text 0 0) 34 b)) fronts
    found h
as_top start.At text found some shut b fronts h =
    at_top text (drop 1 text) found (behind_byte text 64 (λ e. omega arith) (eqb-true (get_or text 0 0) 64 b))
    fronts h
as_top start.Other text found some shut b fronts h = sign_top text found shut fronts h

pub body_top : (text : List ℕ) (found : Piece) → 0 < length text → opens_comment text ≡ false
    → FindsInBody text found → Tops IsBodyPiece text found
body_top text found some shut h =
    as_top (start_of (get_or text 0 0)) text found some shut (starts (get_or text 0 0))
    (λ front behind other cut p. front_fits text front behind other cut p) h

-- where a comment begins, its beginning is the longest piece
pub comment_body : (text behind : List ℕ) → text ≡ OPENING ++ behind → Top IsBodyPiece text piece.Stray
comment_body text behind e = record {
  bytes = OPENING;
  rest = behind;
  cut = e;
  is = inl refl;
  longest = λ front back other cut p.
      let first : get_or text 0 0 ≡ 47 = ap (λ (s : List ℕ). get_or s 0 0) e in
      let fits : Fits start.Other front other =
      subst (λ b. Fits (start_of b) front other) first (front_fits text front back other cut p) in
      elim fits [
        | inl k ↦ let len = ap (λ (f : List ℕ). length f) k.1 in let two = at_most_two k.0 in omega arith
        | inr k ↦ let len = ap (λ (f : List ℕ). length f) k.0 in omega arith
      ];
}
