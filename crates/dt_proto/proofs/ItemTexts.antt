-- How a list is written of whose items each has a text.
use Rattle.std.proofs.Common.{◌≡◌, ℕ, true, false, List, [], ◌∷◌, ◌++◌, map, decimal, append_assoc, refl, sym, ap, ◌∙◌}
use Rattle.std.specs.List.{join_with_byte}
use Rattle.serde_json.specs.Data.{Data}
use Rattle.serde_json.specs.View.{items_of}
use Rattle.serde_json.specs.Written.{compact_text, items_text}
use Rattle.dt_proto.specs.Reply.{numbers_text}
use Rattle.dt_proto.specs.Scalars.{of_number}

module _ (A : Type 0) (value : A → Data) (word : A → List ℕ)
    (written : (x : A) → compact_text (value x) ≡ word x) where
  -- the items after the first, and the closing bracket
  more_text : List A → List ℕ
  more_text [] = 93 ∷ []
  more_text (x ∷ xs) = 44 ∷ (word x ++ more_text xs)

  more_written : (xs : List A) → items_text true (items_of (map value xs)) ≡ more_text xs
  unfolding more_text
  more_written [] = refl
  more_written (x ∷ xs) =
      ap (λ first. 44 ∷ (first ++ items_text true (items_of (map value xs)))) (written x)
      ∙ ap (λ more. 44 ∷ (word x ++ more)) (more_written xs)

  joined : (x : A) (xs : List A) → word x ++ more_text xs ≡ join_with_byte 44 (map word (x ∷ xs)) ++ 93 ∷ []
  unfolding more_text
  joined x [] = refl
  joined x (next ∷ xs) =
      ap (λ more. word x ++ 44 ∷ more) (joined next xs)
      ∙ sym (append_assoc (word x) (44 ∷ join_with_byte 44 (map word (next ∷ xs))) (93 ∷ []))

  pub items_written : (xs : List A) → items_text false (items_of (map value xs))
      ≡ join_with_byte 44 (map word xs) ++ 93 ∷ []
  items_written [] = refl
  items_written (x ∷ xs) =
      ap (λ first. first ++ items_text true (items_of (map value xs))) (written x)
      ∙ ap (λ more. word x ++ more) (more_written xs) ∙ joined x xs

pub numbers_written : (numbers : List ℕ) → items_text false (items_of (map of_number numbers))
    ≡ numbers_text numbers ++ 93 ∷ []
numbers_written numbers = items_written ℕ of_number decimal (λ n. refl) numbers
