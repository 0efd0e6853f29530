-- An input is its lines and a rest, in one way.
use Rattle.std.proofs.Common.{◌≡◌, ◌≢◌, ℕ, ◌≤◌, List, [], ◌∷◌, ◌++◌, false, length, refl, sym, ap, ◌∙◌, inl, inr, arith}
use Rattle.std.proofs.Common.{append_assoc}
use Rattle.std.specs.List.{All, AllByRecursion, onto_first, flat_map}
use Rattle.std.proofs.lemmas.Bool.{ne_eqb}
use Rattle.std.proofs.lemmas.Bool.Decides.{eqb_tells}
use Rattle.std.proofs.lemmas.List.{append-nil}
use Rattle.std.proofs.lemmas.List.Elements.{All-weaker, All-nil, All-cons}
use Rattle.std.proofs.lemmas.List.Splits.{slice_split_at, slice_split_none}
use Rattle.dt_proto.specs.Lines.{is_newline, all_but_last, last_of, parts_of, rest_of}
use Rattle.dt_proto.specs.Splits.{HasNoNewline, with_newline, Splits}
use Rattle.dt_proto.specs.laws.Parts.{some_part, all_but_last-append, last_of-append, parts-newline, parts-other}

unmarked : (text : List ℕ) → HasNoNewline text → All (λ byte. is_newline byte ≡ false) text
unmarked text h = All-weaker (λ byte. byte ≢ 10) (λ byte. is_newline byte
    ≡ false) (λ byte other. ne_eqb byte 10 other) text h

pub parts-none : (text : List ℕ) → HasNoNewline text → parts_of text ≡ text ∷ []
parts-none text none = slice_split_none is_newline text (unmarked text none)

pub parts-line : (line rest : List ℕ) → HasNoNewline line → parts_of (line ++ 10 ∷ rest) ≡ line ∷ parts_of rest
parts-line line rest none = slice_split_at is_newline line 10 rest (unmarked line none) refl

-- the lines and the rest of some parts are this text
splits_behind_newline : (text : List ℕ) (parts : List (List ℕ)) → 1 ≤ length parts
    → Splits text (all_but_last parts) (last_of parts)
    → Splits (10 ∷ text) (all_but_last ([] ∷ parts)) (last_of ([] ∷ parts))
splits_behind_newline text [] some splits = absurd (omega arith)
splits_behind_newline text (part ∷ parts) some splits = record {
  whole = ap (λ (more : List ℕ). 10 ∷ more) splits.whole;
  each = (All-nil (λ byte. byte ≢ 10), splits.each);
  last = splits.last;
}

splits_behind_other : (byte : ℕ) (text : List ℕ) (parts : List (List ℕ)) → byte ≢ 10 → 1 ≤ length parts
    → Splits text (all_but_last parts) (last_of parts)
    → Splits (byte ∷ text) (all_but_last (onto_first byte parts)) (last_of (onto_first byte parts))
splits_behind_other byte text [] other some splits = absurd (omega arith)
splits_behind_other byte text (part ∷ []) other some splits = record {
  whole = ap (λ (more : List ℕ). byte ∷ more) splits.whole;
  each = tt;
  last = All-cons (λ byte. byte ≢ 10) byte part other splits.last;
}
splits_behind_other byte text (part ∷ next ∷ parts) other some splits = record {
  whole = ap (λ (more : List ℕ). byte ∷ more) splits.whole;
  each = (All-cons (λ byte. byte ≢ 10) byte part other splits.each.0, splits.each.1);
  last = splits.last;
}

pub splits : (input : List ℕ) → Splits input (all_but_last (parts_of input)) (rest_of input)
splits [] = record { whole = refl; each = tt; last = All-nil (λ byte. byte ≢ 10) }
splits (byte ∷ text) =
    elim (eqb_tells byte 10) [
      | inl is ↦
          rw (parts-newline byte text is.1, is.1)
          (splits_behind_newline text (parts_of text) (some_part text) (splits text))
      | inr is_not ↦
          rw (parts-other byte text is_not.0)
          (splits_behind_other byte text (parts_of text) is_not.1 (some_part text) (splits text))
    ]

parts-lines : (lines : List (List ℕ)) (rest : List ℕ) → AllByRecursion HasNoNewline lines → HasNoNewline rest
    → parts_of (flat_map with_newline lines ++ rest) ≡ lines ++ rest ∷ []
parts-lines [] rest each none = parts-none rest none
parts-lines (line ∷ lines) rest each none =
    ap parts_of (ap (λ more. more ++ rest) (append_assoc line (10 ∷ []) (flat_map with_newline lines))
    ∙ append_assoc line (10 ∷ flat_map with_newline lines) rest)
    ∙ parts-line line (flat_map with_newline lines ++ rest) each.0
    ∙ ap (λ parts. line ∷ parts) (parts-lines lines rest each.1 none)

pub one_way : (input : List ℕ) (lines : List (List ℕ)) (rest : List ℕ) → Splits input lines rest
    → (lines ≡ all_but_last (parts_of input)) × (rest ≡ rest_of input)
one_way input lines rest splits =
    let parts : parts_of input ≡ lines ++ rest ∷ [] =
    ap parts_of splits.whole ∙ parts-lines lines rest splits.each splits.last in (
      sym (ap all_but_last parts ∙ all_but_last-append lines (rest ∷ []) (omega arith) ∙ append-nil lines),
      sym (ap last_of parts ∙ last_of-append lines (rest ∷ []) (omega arith)),
    )
