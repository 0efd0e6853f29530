-- The lines that were given so far, and one more.
use Rattle.std.proofs.Common.{◌≡◌, ℕ, Bool, true, false, List, [], ◌∷◌, ◌++◌, map, sym, ap}
use Rattle.std.proofs.Common.{◌∙◌, append_assoc, subst}
use Rattle.std.proofs.lemmas.List.{append-nil, map-append}
use Rattle.dt_proto.specs.Asked.{form_asked}
use Rattle.dt_proto.specs.HasRead.{HasRead, line_given}
use Rattle.dt_proto.specs.Lines.{LineForm}
use Rattle.dt_proto.specs.declared.asked.Asked.{Asked}
use Rattle.dt_proto.specs.declared.lines.Lines.{Lines}

-- a line has become whole, and was asked
pub given_line : (old new : List Asked) (asked : Asked) (lines : List LineForm) (form : LineForm) (whole : Bool)
    → whole ≡ true → new ≡ old ++ asked ∷ [] → form_asked asked ≡ form → map form_asked old ≡ lines
    → map form_asked new ≡ lines ++ line_given whole form
given_line old new asked lines form whole is added same before =
    rw (is, added) (map-append form_asked old (asked ∷ []) ∙ ap (λ front. front ++ form_asked asked ∷ []) before
    ∙ ap (λ (last : LineForm). lines ++ last ∷ []) same)

-- none has
pub given_none : (old new : List Asked) (lines : List LineForm) (form : LineForm) (whole : Bool)
    → whole ≡ false → new ≡ old → map form_asked old ≡ lines → map form_asked new ≡ lines ++ line_given whole form
given_none old new lines form whole is same before = rw (is, same) (before ∙ sym (append-nil lines))

pub read_on : (input taken bytes : List ℕ) (lines : Lines) → HasRead ((input ++ taken) ++ bytes) lines
    → HasRead (input ++ (taken ++ bytes)) lines
read_on input taken bytes lines read =
    let P : List ℕ → Type 0 = λ all. HasRead all lines in subst P (append_assoc input taken bytes) read
