-- A text is cut at its first byte of a value in one way.
use Rattle.std.proofs.Common.{◌≡◌, ◌≢◌, ℕ, ◌==◌, Bool, true, false, List, [], ◌∷◌, ◌++◌, refl, sym, subst, append_assoc}
use Rattle.std.proofs.Common.{◌∙◌}
use Rattle.std.specs.List.{list_any}
use Rattle.std.proofs.lemmas.Bool.{eq-eqb, true≢false}
use Rattle.std.proofs.lemmas.List.Elements.{All-nil, All-cons, All-head, All-tail}
use Rattle.dt_proto.specs.Splits.{with_newline}
use Rattle.dt_alone.specs.Parts.{HasNo}

abbrev pub Other : ℕ → ℕ → Type 0
Other byte other = other ≢ byte

pub same_cut : (byte : ℕ) (f g r s : List ℕ) → HasNo byte f → HasNo byte g → f ++ (byte ∷ r) ≡ g ++ (byte ∷ s)
    → (f ≡ g) × (r ≡ s)
same_cut byte [] [] r s p q e = (refl, cc)
same_cut byte [] (y ∷ g) r s p q e = let same : y ≡ byte = cc in absurd (All-head (Other byte) y g q same)
same_cut byte (x ∷ f) [] r s p q e = let same : x ≡ byte = cc in absurd (All-head (Other byte) x f p same)
same_cut byte (x ∷ f) (y ∷ g) r s p q e =
    let first : x ≡ y = cc in
    let later : f ++ (byte ∷ r) ≡ g ++ (byte ∷ s) = cc in
    let more = same_cut byte f g r s (All-tail (Other byte) x f p) (All-tail (Other byte) y g q) later in
    let fronts : f ≡ g = more.0 in
    let whole : x ∷ f ≡ y ∷ g = cc in
    (whole, more.1)

no_cut_in : (byte : ℕ) (f r : List ℕ) → HasNo byte (f ++ (byte ∷ r)) → ⊥
no_cut_in byte [] r none = All-head (Other byte) byte r none refl
no_cut_in byte (x ∷ f) r none = no_cut_in byte f r (All-tail (Other byte) x (f ++ (byte ∷ r)) none)

-- a text without this byte is cut nowhere
pub no_cut : (byte : ℕ) (text f r : List ℕ) → HasNo byte text → text ≡ f ++ (byte ∷ r) → ⊥
no_cut byte text f r none is = no_cut_in byte f r (subst (HasNo byte) is none)

-- a line, and what comes after it
pub line_then : (line rest : List ℕ) → with_newline line ++ rest ≡ line ++ (10 ∷ rest)
line_then line rest = append_assoc line (10 ∷ []) rest

-- a text that is written out has none of this byte, where a test says so
none_at : (byte x : ℕ) (xs : List ℕ) (b : Bool) → (x == byte) ≡ b
    → (list_any (λ other. other == byte) xs ≡ false → HasNo byte xs)
    → list_any (λ other. other == byte) (x ∷ xs) ≡ false → HasNo byte (x ∷ xs)
none_at byte x xs true is more h = let found = rw is at h in absurd (true≢false found)
none_at byte x xs false is more h =
    let rest = rw is at h in
    All-cons (Other byte) x xs (λ same. true≢false (sym (eq-eqb x byte same) ∙ is)) (more rest)

pub none_in : (byte : ℕ) (xs : List ℕ) → list_any (λ other. other == byte) xs ≡ false → HasNo byte xs
none_in byte [] h = All-nil (Other byte)
none_in byte (x ∷ xs) h = none_at byte x xs (x == byte) refl (none_in byte xs) h
