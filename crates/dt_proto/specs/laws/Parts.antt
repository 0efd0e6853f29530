-- The parts of two texts, one after the other.
use Rattle.std.proofs.Common.{◌≡◌, ℕ, ◌+◌, ◌≤◌, List, [], ◌∷◌, ◌++◌, false, length, map, refl, sym, ap, ◌∙◌, inl, inr}
use Rattle.std.proofs.Common.{arith}
use Rattle.std.specs.List.{count_by, onto_first}
use Rattle.std.proofs.lemmas.Bool.Decides.{eqb_tells}
use Rattle.std.proofs.lemmas.List.{length-append, map-append}
use Rattle.std.proofs.lemmas.List.Splits.{length-slice_split, slice_split-cons_yes, slice_split-cons_no}
use Rattle.dt_proto.specs.Lines.{is_newline, all_but_last, last_of, parts_of, line_form, lines_of, rest_of}

pub some_part : (input : List ℕ) → 1 ≤ length (parts_of input)
some_part input =
    let count : length (parts_of input) ≡ count_by is_newline input + 1 = length-slice_split is_newline input in
    omega (arith, count)

pub all_but_last-cons : (part : List ℕ) (parts : List (List ℕ)) → 1 ≤ length parts
    → all_but_last (part ∷ parts) ≡ part ∷ all_but_last parts
all_but_last-cons part [] some = absurd (omega arith)
all_but_last-cons part (next ∷ parts) some = refl

pub last_of-cons : (part : List ℕ) (parts : List (List ℕ)) → 1 ≤ length parts
    → last_of (part ∷ parts) ≡ last_of parts
last_of-cons part [] some = absurd (omega arith)
last_of-cons part (next ∷ parts) some = refl

more_parts : (front back : List (List ℕ)) → 1 ≤ length back → 1 ≤ length (front ++ back)
more_parts front back some = omega (arith, length-append front back)

pub all_but_last-append : (front back : List (List ℕ)) → 1 ≤ length back
    → all_but_last (front ++ back) ≡ front ++ all_but_last back
all_but_last-append [] back some = refl
all_but_last-append (part ∷ front) back some =
    all_but_last-cons part (front ++ back) (more_parts front back some)
    ∙ ap (λ parts. part ∷ parts) (all_but_last-append front back some)

pub last_of-append : (front back : List (List ℕ)) → 1 ≤ length back → last_of (front ++ back) ≡ last_of back
last_of-append [] back some = refl
last_of-append (part ∷ front) back some =
    last_of-cons part (front ++ back) (more_parts front back some) ∙ last_of-append front back some

pub parts-newline : (byte : ℕ) (text : List ℕ) → byte ≡ 10 → parts_of (byte ∷ text) ≡ [] ∷ parts_of text
parts-newline byte text is = slice_split-cons_yes is_newline byte text (ap is_newline is)

pub parts-other : (byte : ℕ) (text : List ℕ) → is_newline byte ≡ false
    → parts_of (byte ∷ text) ≡ onto_first byte (parts_of text)
parts-other byte text other = slice_split-cons_no is_newline byte text other

-- the parts of the text and of what comes after it, where a newline comes first
behind_newline : (whole parts : List (List ℕ)) (b : List ℕ) → 1 ≤ length parts
    → whole ≡ all_but_last parts ++ parts_of (last_of parts ++ b)
    → [] ∷ whole ≡ all_but_last ([] ∷ parts) ++ parts_of (last_of ([] ∷ parts) ++ b)
behind_newline whole [] b some same = absurd (omega arith)
behind_newline whole (part ∷ parts) b some same = ap (λ (more : List (List ℕ)). [] ∷ more) same

-- the same where another byte comes first
behind_other : (byte : ℕ) (whole parts : List (List ℕ)) (b : List ℕ) → is_newline byte ≡ false → 1 ≤ length parts
    → whole ≡ all_but_last parts ++ parts_of (last_of parts ++ b)
    → onto_first byte whole
    ≡ all_but_last (onto_first byte parts) ++ parts_of (last_of (onto_first byte parts) ++ b)
behind_other byte whole [] b other some same = absurd (omega arith)
behind_other byte whole (part ∷ []) b other some same =
    ap (onto_first byte) same ∙ sym (parts-other byte (part ++ b) other)
behind_other byte whole (part ∷ next ∷ parts) b other some same = ap (onto_first byte) same

pub parts-append : (a b : List ℕ)
    → parts_of (a ++ b) ≡ all_but_last (parts_of a) ++ parts_of (last_of (parts_of a) ++ b)
parts-append [] b = refl
parts-append (byte ∷ a) b =
    elim (eqb_tells byte 10) [
      | inl is ↦
          rw (parts-newline byte a is.1)
          (parts-newline byte (a ++ b) is.1
          ∙ behind_newline (parts_of (a ++ b)) (parts_of a) b (some_part a) (parts-append a b))
      | inr is_not ↦
          rw (parts-other byte a is_not.0)
          (parts-other byte (a ++ b) is_not.0
          ∙ behind_other byte (parts_of (a ++ b)) (parts_of a) b is_not.0 (some_part a) (parts-append a b))
    ]

pub lines-append : (a b : List ℕ) → lines_of (a ++ b) ≡ lines_of a ++ lines_of (rest_of a ++ b)
lines-append a b =
    ap (λ parts. map line_form (all_but_last parts)) (parts-append a b)
    ∙ ap (map line_form)
    (all_but_last-append (all_but_last (parts_of a)) (parts_of (rest_of a ++ b)) (some_part (rest_of a ++ b)))
    ∙ map-append line_form (all_but_last (parts_of a)) (all_but_last (parts_of (rest_of a ++ b)))

pub rest-append : (a b : List ℕ) → rest_of (a ++ b) ≡ rest_of (rest_of a ++ b)
rest-append a b =
    ap last_of (parts-append a b)
    ∙ last_of-append (all_but_last (parts_of a)) (parts_of (rest_of a ++ b)) (some_part (rest_of a ++ b))
