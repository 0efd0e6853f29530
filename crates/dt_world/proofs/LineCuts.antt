-- The lines of a text, cut off at its front.
use Rattle.std.proofs.Common.{◌≡◌, ℕ, ◌+◌, List, [], ◌∷◌, ◌++◌, length, append_assoc, sym, ap, ◌∙◌, arith}
use Rattle.std.proofs.lemmas.List.{append-nil, length-append}
use Rattle.dt_proto.specs.Lines.{all_but_last, parts_of}
use Rattle.dt_proto.specs.Splits.{HasNoNewline, IsCut}
use Rattle.dt_proto.specs.laws.Parts.{some_part, all_but_last-cons}
use Rattle.dt_proto.specs.laws.Splitting.{parts-none, parts-line}
use Rattle.dt_world.specs.Input.{input_lines}

pub lines_of-cut : (text line rest : List ℕ) → IsCut text line rest → input_lines text ≡ line ∷ input_lines rest
lines_of-cut text line rest cut =
    ap all_but_last (ap parts_of cut.whole ∙ parts-line line rest cut.first)
    ∙ all_but_last-cons line (parts_of rest) (some_part rest)

pub lines_of-none : (text : List ℕ) → HasNoNewline text → input_lines text ≡ []
lines_of-none text none = ap all_but_last (parts-none text none)

pub lines-one_more : (text rest line more : List ℕ) (lines : List (List ℕ)) → input_lines text
    ≡ lines ++ input_lines rest
    → IsCut rest line more → input_lines text ≡ (lines ++ line ∷ []) ++ input_lines more
lines-one_more text rest line more lines all cut = all
    ∙ ap (λ others. lines ++ others) (lines_of-cut rest line more cut)
    ∙ sym (append_assoc lines (line ∷ []) (input_lines more))

pub length-cut : (text line rest : List ℕ) → IsCut text line rest → length text ≡ length line + (1 + length rest)
length-cut text line rest cut = ap length cut.whole ∙ length-append line (10 ∷ rest) ∙ omega arith

pub lines-all : (text rest : List ℕ) (lines : List (List ℕ)) → input_lines text ≡ lines ++ input_lines rest
    → HasNoNewline rest → input_lines text ≡ lines
lines-all text rest lines all none = all ∙ ap (λ others. lines ++ others) (lines_of-none rest none) ∙ append-nil lines
