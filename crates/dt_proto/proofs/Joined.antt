-- A list with commas between its items: the first, and each further one after a comma.
use Rattle.std.proofs.Common.{◌≡◌, ℕ, List, [], ◌∷◌, ◌++◌, map, sym, ap, ◌∙◌, append_assoc}
use Rattle.std.proofs.lemmas.List.{append-nil}
use Rattle.std.specs.List.{flat_map, join_with_byte}
use Rattle.dt_names.specs.Bytes.{comma}

pub joined : (A : Type 0) (text : A → List ℕ) (x : A) (xs : List A)
    → join_with_byte comma (map text (x ∷ xs)) ≡ text x ++ flat_map (λ y. comma ∷ text y) xs
joined A text x [] = sym (append-nil (text x))
joined A text x (y ∷ xs) = ap (λ more. text x ++ comma ∷ more) (joined A text y xs)

-- The first item and then the further ones were added.
pub joined_added : (A : Type 0) (text : A → List ℕ) (line now after : List ℕ) (first : A) (more all : List A)
    → all ≡ first ∷ more → now ≡ line ++ text first → after ≡ now ++ flat_map (λ y. comma ∷ text y) more
    → after ≡ line ++ join_with_byte comma (map text all)
joined_added A text line now after first more all is added further =
    further ∙ ap (λ l. l ++ flat_map (λ y. comma ∷ text y) more) added
    ∙ append_assoc line (text first) (flat_map (λ y. comma ∷ text y) more)
    ∙ ap (λ l. line ++ l) (sym (joined A text first more)) ∙ ap (λ l. line ++ join_with_byte comma (map text l)) (sym is)
