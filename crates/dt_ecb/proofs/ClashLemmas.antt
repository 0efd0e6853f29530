-- The walk over the uses of a program, which stand after the accepted ones.
use Rattle.std.proofs.Common.{◌≡◌, ℕ, ◌+◌, ◌<◌, ◌≤◌, ◌||◌, Bool, true, false, cond, List, ◌∷◌, ◌++◌, Option}
use Rattle.std.proofs.Common.{Some, None, length, get_or, take, drop, map, refl, sym, ap, ◌∙◌, subst, ⊎_elim, arith}
use Rattle.std.specs.List.{slice_get, list_any}
use Rattle.std.specs.Option.{IfSome}
use Rattle.std.specs.Str.{bytes_eq}
use Rattle.std.proofs.lemmas.Bool.{cases_lt}
use Rattle.std.proofs.lemmas.List.{length-map, take-map, drop_all, drop_more}
use Rattle.std.proofs.lemmas.List.Folds.{list_any-append}
use Rattle.std.proofs.lemmas.Option.{slice_get-map, slice_get-get_or, slice_get_past}
use Rattle.std.specs.Option.{option_map}
use Rattle.dt_ecb.specs.Forms.{form_of_shape}
use Rattle.dt_ecb.specs.Shapes.{ShapeForm, clash, clashes, any_clash, IsFirstClash, names_count}
use Rattle.dt_ecb.specs.declared.shape.Shape.{Shape}
use Rattle.dt_ecb.proofs.ClashLaws.{none_clash}
use Rattle.dt_ecb.proofs.ProbeLemmas.{list_any-map}

abbrev pub forms : List Shape → List ShapeForm
forms = map form_of_shape

-- the uses up to a place of the program's do not clash
abbrev pub NoneClash : List ShapeForm → List ShapeForm → ℕ → Type 0
NoneClash accepted uses count = (i : ℕ) → i < count
    → IfSome (slice_get uses i) (λ one. clashes (accepted ++ take i uses) one ≡ false)

-- the test of one more use, in two parts
pub clashes_parts : (accepted earlier : List Shape) (one : ShapeForm)
    → clashes (forms accepted ++ forms earlier) one
    ≡ (list_any (λ other. clash (form_of_shape other) one) accepted
    || list_any (λ other. clash (form_of_shape other) one) earlier)
clashes_parts accepted earlier one =
    list_any-append (λ other. clash other one) (forms accepted) (forms earlier)
    ∙ ap (λ b. b || list_any (λ other. clash other one) (forms earlier))
    (list_any-map form_of_shape (λ other. clash other one) accepted)
    ∙ ap (λ b. list_any (λ other. clash (form_of_shape other) one) accepted || b)
    (list_any-map form_of_shape (λ other. clash other one) earlier)

module _ (accepted uses : List Shape) where
  this_one : (place : ℕ) (one : Shape) → place < length uses → one ≡ get_or uses place one
      → slice_get (forms uses) place ≡ Some (form_of_shape one)
  this_one place one inside is =
      slice_get-map form_of_shape uses place
      ∙ ap (option_map form_of_shape) (slice_get-get_or uses place one inside)
      ∙ ap (λ shape. Some (form_of_shape shape)) (sym is)

  tested : (place : ℕ) (one : ShapeForm) → clashes (forms accepted ++ take place (forms uses)) one
      ≡ clashes (forms accepted ++ forms (take place uses)) one
  tested place one = ap (λ earlier. clashes (forms accepted ++ earlier) one) (take-map form_of_shape place uses)

  pub clash_found : (place : ℕ) (one : Shape) → place < length uses → one ≡ get_or uses place one
      → clashes (forms accepted ++ forms (take place uses)) (form_of_shape one) ≡ true
      → NoneClash (forms accepted) (forms uses) place → IsFirstClash (forms accepted) (forms uses) one.name
  clash_found place one inside is holds none = record {
    place = place;
    one = form_of_shape one;
    here = this_one place one inside is;
    named = refl;
    is = tested place (form_of_shape one) ∙ holds;
    before = none;
  }

  pub none_further : (place : ℕ) (one : Shape) → place < length uses → one ≡ get_or uses place one
      → clashes (forms accepted ++ forms (take place uses)) (form_of_shape one) ≡ false
      → NoneClash (forms accepted) (forms uses) place → NoneClash (forms accepted) (forms uses) (place + 1)
  none_further place one inside is fails none i less = ⊎_elim
      (λ before. none i before)
      (λ later.
      let same : i ≡ place = omega arith in
      let P : ℕ → Type 0 =
      λ j. IfSome (slice_get (forms uses) j) (λ one. clashes (forms accepted ++ take j (forms uses)) one ≡ false) in
      let At : Option ShapeForm → Type 0 =
      λ o. IfSome o (λ one. clashes (forms accepted ++ take place (forms uses)) one ≡ false) in
      subst P (sym same)
      (subst At (sym (this_one place one inside is)) (tested place (form_of_shape one) ∙ fails)))
      (cases_lt i place)

  past_end : (i : ℕ) (o : Option ShapeForm) → o ≡ None → (test : ShapeForm → Bool)
      → IfSome o (λ one. test one ≡ false)
  past_end i None e test = tt
  past_end i (Some x) e test = cc

  pub none_at_all : (place : ℕ) → length uses ≤ place → NoneClash (forms accepted) (forms uses) place
      → any_clash (forms accepted) (forms uses) ≡ false
  none_at_all place done none = none_clash (forms accepted) (forms uses)
      (λ i. ⊎_elim
      (λ less. none i (omega (arith, length-map uses form_of_shape)))
      (λ more. past_end i (slice_get (forms uses) i) (slice_get_past (forms uses) i more)
      (λ one. clashes (forms accepted ++ take i (forms uses)) one))
      (cases_lt i (length (forms uses))))

-- a name's last use is counted
abbrev named_later : ShapeForm → List ShapeForm → Bool
named_later one = list_any (λ other. bytes_eq one.name other.name)

-- the test of a name, in two parts
pub named_parts : (one : ShapeForm) (uses later : List Shape)
    → named_later one (forms uses ++ forms later)
    ≡ (list_any (λ other. bytes_eq one.name (form_of_shape other).name) uses
    || list_any (λ other. bytes_eq one.name (form_of_shape other).name) later)
named_parts one uses later =
    list_any-append (λ other. bytes_eq one.name other.name) (forms uses) (forms later)
    ∙ ap (λ b. b || named_later one (forms later))
    (list_any-map form_of_shape (λ (other : ShapeForm). bytes_eq one.name other.name) uses)
    ∙ ap (λ b. list_any (λ other. bytes_eq one.name (form_of_shape other).name) uses || b)
    (list_any-map form_of_shape (λ (other : ShapeForm). bytes_eq one.name other.name) later)

module _ (shapes later : List Shape) (i : ℕ) (one : Shape) (inside : i < length shapes)
    (is : one ≡ get_or shapes i one) where
  abbrev left : ℕ → List ShapeForm
  left n = forms (drop n shapes) ++ forms later

  count_by : (b : Bool) → named_later (form_of_shape one) (left (i + 1)) ≡ b
      → names_count (left i) ≡ cond b (names_count (left (i + 1))) (1 + names_count (left (i + 1)))
  count_by b e =
      ap (λ xs. names_count (forms xs ++ forms later)) (drop_more shapes i one inside)
      ∙ ap (λ x. names_count (form_of_shape x ∷ left (i + 1))) (sym is)
      ∙ ap (λ c. cond c (names_count (left (i + 1))) (1 + names_count (left (i + 1)))) e

  pub count_same : named_later (form_of_shape one) (left (i + 1)) ≡ true
      → names_count (left i) ≡ names_count (left (i + 1))
  count_same e = count_by true e

  pub count_more : named_later (form_of_shape one) (left (i + 1)) ≡ false
      → names_count (left i) ≡ 1 + names_count (left (i + 1))
  count_more e = count_by false e

-- where no use is left, all names are counted
pub none_left : (shapes later : List Shape) (i : ℕ) → length shapes ≤ i
    → names_count (forms (drop i shapes) ++ forms later) ≡ names_count (forms later)
none_left shapes later i done = ap (λ xs. names_count (forms xs ++ forms later)) (drop_all i shapes done)
