-- Rows of keys, one element further.
use Rattle.std.proofs.Common.{◌≡◌, ◌&&◌, Bool, true, false, List, [], ◌∷◌, length, refl, ap, ◌∙◌, arith}
use Rattle.dt_ecb.specs.Shapes.{KeyKind, same_kind, same_kinds}

and_false : (b : Bool) → false ≡ (b && false)
and_false true = refl
and_false false = refl

-- rows of different lengths differ
pub other_length : (kinds others : List KeyKind) → (length kinds ≡ length others → ⊥)
    → false ≡ same_kinds kinds others
other_length [] [] h = absurd (h refl)
other_length [] (other ∷ others) h = refl
other_length (kind ∷ kinds) [] h = refl
other_length (kind ∷ kinds) (other ∷ others) h =
    and_false (same_kind kind other)
    ∙ ap (λ b. same_kind kind other && b) (other_length kinds others (λ e. h (omega (arith, e))))
