-- A text is cut at its first blank in one way.
use Rattle.std.proofs.Common.{◌≡◌, ◌≢◌, ℕ, List, [], ◌∷◌, ◌++◌, refl, subst}
use Rattle.std.proofs.lemmas.List.Elements.{All-head, All-tail}
use Rattle.dt_world.specs.Words.{HasNoBlank}

abbrev pub NotBlank : ℕ → Type 0
NotBlank byte = byte ≢ 32

pub same_cut : (f g r s : List ℕ) → HasNoBlank f → HasNoBlank g → f ++ (32 ∷ r) ≡ g ++ (32 ∷ s)
    → (f ≡ g) × (r ≡ s)
same_cut [] [] r s p q e = (refl, cc)
same_cut [] (y ∷ g) r s p q e = let same : y ≡ 32 = cc in absurd (All-head NotBlank y g q same)
same_cut (x ∷ f) [] r s p q e = let same : x ≡ 32 = cc in absurd (All-head NotBlank x f p same)
same_cut (x ∷ f) (y ∷ g) r s p q e =
    let first : x ≡ y = cc in
    let later : f ++ (32 ∷ r) ≡ g ++ (32 ∷ s) = cc in
    let more = same_cut f g r s (All-tail NotBlank x f p) (All-tail NotBlank y g q) later in
    let fronts : f ≡ g = more.0 in
    let whole : x ∷ f ≡ y ∷ g = cc in
    (whole, more.1)

no_cut_in : (f r : List ℕ) → HasNoBlank (f ++ (32 ∷ r)) → ⊥
no_cut_in [] r none = All-head NotBlank 32 r none refl
no_cut_in (x ∷ f) r none = no_cut_in f r (All-tail NotBlank x (f ++ (32 ∷ r)) none)

-- a text without a blank is cut nowhere
pub no_cut : (text f r : List ℕ) → HasNoBlank text → text ≡ f ++ (32 ∷ r) → ⊥
no_cut text f r none is = no_cut_in f r (subst HasNoBlank is none)
