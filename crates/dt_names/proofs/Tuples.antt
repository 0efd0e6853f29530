-- The text of a tuple and the four fields that it is cut into.
use Rattle.std.proofs.Common.{◌≡◌, ◌≢◌, ℕ, ◌++◌, Bool, true, false, eqb, List, [], ◌∷◌, length, drop, replicate, sym}
use Rattle.std.proofs.Common.{ap, ◌∙◌, refl, arith}
use Rattle.std.proofs.lemmas.Bool.{eqb-true, true≢false}
use Rattle.dt_names.specs.Desc.{fields}
use Rattle.dt_names.specs.Name.{IsName}
use Rattle.dt_names.specs.Tuple.{SpellsTuple}
use Rattle.dt_names.specs.declared.tuple.ProbeTuple.{ProbeTuple}
use Rattle.dt_names.proofs.Aligning.{four_fields, colons_of}

pub empty-from_test : (xs : List ℕ) (r : Bool) → r ≡ eqb (length xs) 0 → r ≡ true → xs ≡ []
empty-from_test [] r e holds = refl
empty-from_test (x ∷ xs) r e holds = absurd (omega (arith, eqb-true (length (x ∷ xs)) 0 (sym e ∙ holds)))

pub some-from_test : (xs : List ℕ) (r : Bool) → r ≡ eqb (length xs) 0 → r ≡ false → xs ≢ []
some-from_test [] r e fails = λ _. true≢false (sym e ∙ fails)
some-from_test (x ∷ xs) r e fails = λ is. cc

-- a tuple's fields are the four
pub tuple_fields : (text provider module' function name : List ℕ) (tuple : ProbeTuple) → SpellsTuple text tuple
    → provider ∷ module' ∷ function ∷ name ∷ [] ≡ drop (length (fields text)) (replicate 4 [] ++ fields text)
    → (provider ≡ tuple.provider) × (name ≡ tuple.name)
tuple_fields text provider module' function name tuple s h =
    let whole = four_fields text (provider ∷ module' ∷ function ∷ name ∷ []) (colons_of text _ _ _ _ s.spelled) h in
    let same : provider ∷ module' ∷ function ∷ name ∷ []
    ≡ tuple.provider ∷ tuple.module ∷ tuple.function ∷ tuple.name ∷ [] = sym whole ∙ s.spelled in
    (cc, cc)

pub spells : (text provider module' function name : List ℕ) (tuple : ProbeTuple) → fields text
    ≡ provider ∷ module' ∷ function ∷ name ∷ []
    → tuple.provider ≡ provider → tuple.module ≡ module' → tuple.function ≡ function → tuple.name ≡ name
    → IsName provider → IsName module' → IsName function → IsName name → provider ≢ [] → name ≢ []
    → SpellsTuple text tuple
spells text provider module' function name tuple h p m f n p-named m-named f-named n-named p-some n-some = record {
  spelled = h ∙ sym
      (ap (λ x. x ∷ tuple.module ∷ tuple.function ∷ tuple.name ∷ []) p
      ∙ ap (λ x. provider ∷ x ∷ tuple.function ∷ tuple.name ∷ []) m
      ∙ ap (λ x. provider ∷ module' ∷ x ∷ tuple.name ∷ []) f ∙ ap (λ x. provider ∷ module' ∷ function ∷ x ∷ []) n);
  provider_named = rw p p-named;
  module_named = rw m m-named;
  function_named = rw f f-named;
  name_named = rw n n-named;
  some_provider = rw p p-some;
  some_name = rw n n-some;
}
