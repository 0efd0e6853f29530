-- The first use that clashes: there is one exactly where some use clashes.
use Rattle.std.proofs.Common.{◌≡◌, ℕ, zero, suc, ◌<◌, ◌||◌, Bool, true, false, List, [], ◌∷◌, ◌++◌, Option, Some, None}
use Rattle.std.proofs.Math.Bool.{or-true}
use Rattle.std.proofs.Common.{take, refl, sym, ap, ◌∙◌, ⊎_elim, arith}
use Rattle.std.specs.List.{slice_get}
use Rattle.std.specs.Option.{IfSome}
use Rattle.std.proofs.lemmas.Bool.{cases_Bool, cases_lt}
use Rattle.std.proofs.lemmas.List.{append_assoc, append-nil}
use Rattle.dt_ecb.specs.Shapes.{ShapeForm, clashes, any_clash, IsFirstClash}
use Rattle.dt_ecb.proofs.FirstLemmas.{different}

-- a use clashes after others: with the accepted ones and those of the program before it
abbrev clashes_after : List ShapeForm → List ShapeForm → ℕ → ShapeForm → Bool
clashes_after accepted uses i one = clashes (accepted ++ take i uses) one

clashes_first : (accepted : List ShapeForm) (one : ShapeForm) → clashes (accepted ++ []) one ≡ clashes accepted one
clashes_first accepted one = ap (λ shapes. clashes shapes one) (append-nil accepted)

clashes_later : (accepted : List ShapeForm) (x : ShapeForm) (uses : List ShapeForm) (i : ℕ) (one : ShapeForm)
    → clashes_after accepted (x ∷ uses) (suc i) one ≡ clashes_after (accepted ++ x ∷ []) uses i one
clashes_later accepted x uses i one =
    ap (λ shapes. clashes shapes one) (sym (append_assoc accepted (x ∷ []) (take i uses)))

later_at : (o : Option ShapeForm) (test other : ShapeForm → Bool) → ((one : ShapeForm) → test one ≡ other one)
    → IfSome o (λ one. other one ≡ false) → IfSome o (λ one. test one ≡ false)
later_at None test other same h = tt
later_at (Some one) test other same h = same one ∙ h

next_clash : (accepted : List ShapeForm) (x : ShapeForm) (uses : List ShapeForm) (name : List ℕ)
    → clashes accepted x ≡ false → IsFirstClash (accepted ++ x ∷ []) uses name → IsFirstClash accepted (x ∷ uses) name
next_clash accepted x uses name fails first = record {
  place = suc first.place;
  one = first.one;
  here = first.here;
  named = first.named;
  is = clashes_later accepted x uses first.place first.one ∙ first.is;
  before = below;
}
  where
    below : (i : ℕ) → i < suc first.place
        → IfSome (slice_get (x ∷ uses) i) (λ one. clashes_after accepted (x ∷ uses) i one ≡ false)
    below zero h = clashes_first accepted x ∙ fails
    below (suc i) h =
        later_at (slice_get uses i) (clashes_after accepted (x ∷ uses) (suc i))
        (clashes_after (accepted ++ x ∷ []) uses i) (clashes_later accepted x uses i) (first.before i (omega arith))

clash_by : (accepted : List ShapeForm) (x : ShapeForm) (uses : List ShapeForm) (b : Bool) → clashes accepted x ≡ b
    → (b || any_clash (accepted ++ x ∷ []) uses) ≡ true
    → (any_clash (accepted ++ x ∷ []) uses ≡ true → (name : List ℕ) × IsFirstClash (accepted ++ x ∷ []) uses name)
    → (name : List ℕ) × IsFirstClash accepted (x ∷ uses) name
clash_by accepted x uses true is any rest = (
  x.name,
  record {
    place = 0;
    one = x;
    here = refl;
    named = refl;
    is = clashes_first accepted x ∙ is;
    before = λ i h. absurd (omega arith);
  },
)
clash_by accepted x uses false is any rest =
    let later = rest any in (later.0, next_clash accepted x uses later.0 is later.1)

-- where some use clashes, there is a first one
pub some_clash : (accepted uses : List ShapeForm) → any_clash accepted uses ≡ true
    → (name : List ℕ) × IsFirstClash accepted uses name
some_clash accepted [] e = cc
some_clash accepted (x ∷ uses) e =
    clash_by accepted x uses (clashes accepted x) refl e (λ any. some_clash (accepted ++ x ∷ []) uses any)

any_at : (accepted uses : List ShapeForm) (i : ℕ) (one : ShapeForm) → slice_get uses i ≡ Some one
    → clashes_after accepted uses i one ≡ true → any_clash accepted uses ≡ true
any_at accepted [] i one e h = cc
any_at accepted (x ∷ uses) zero one e h =
    let same : x ≡ one = cc in
    ap (λ b. b || any_clash (accepted ++ x ∷ []) uses)
    (ap (clashes accepted) same ∙ sym (clashes_first accepted one) ∙ h)
any_at accepted (x ∷ uses) (suc i) one e h =
    ap (λ b. clashes accepted x || b)
    (any_at (accepted ++ x ∷ []) uses i one e (sym (clashes_later accepted x uses i one) ∙ h))
    ∙ or-true (clashes accepted x)

-- where there is a first one, some use clashes
pub any_from_clash : (accepted uses : List ShapeForm) (name : List ℕ) → IsFirstClash accepted uses name
    → any_clash accepted uses ≡ true
any_from_clash accepted uses name first = any_at accepted uses first.place first.one first.here first.is

at_some : (o : Option ShapeForm) (one : ShapeForm) (test : ShapeForm → Bool) → o ≡ Some one
    → IfSome o (λ x. test x ≡ false) → test one ≡ false
at_some None one test e h = cc
at_some (Some x) one test e h = let same : x ≡ one = cc in sym (ap test same) ∙ h

-- where no use clashes, none does
pub none_clash : (accepted uses : List ShapeForm)
    → ((i : ℕ) → IfSome (slice_get uses i) (λ one. clashes_after accepted uses i one ≡ false))
    → any_clash accepted uses ≡ false
none_clash accepted uses h = ⊎_elim
    (λ any.
    let first = (some_clash accepted uses any).1 in
    absurd
    (different _ first.is
    (at_some (slice_get uses first.place) first.one (clashes_after accepted uses first.place) first.here
    (h first.place))))
    (λ none. none)
    (cases_Bool (any_clash accepted uses))

never_less : (accepted uses : List ShapeForm) (n m : List ℕ) (f : IsFirstClash accepted uses n)
    (g : IsFirstClash accepted uses m) → f.place < g.place → ⊥
never_less accepted uses n m f g less =
    different _ f.is
    (at_some (slice_get uses f.place) f.one (clashes_after accepted uses f.place) f.here (g.before f.place less))

same_at : (accepted uses : List ShapeForm) (n m : List ℕ) (f : IsFirstClash accepted uses n)
    (g : IsFirstClash accepted uses m) → f.place ≡ g.place → n ≡ m
same_at accepted uses n m f g e =
    let same : Some f.one ≡ Some g.one = sym f.here ∙ ap (slice_get uses) e ∙ g.here in
    let one : f.one ≡ g.one = cc in
    sym f.named ∙ ap (λ (shape : ShapeForm). shape.name) one ∙ g.named

-- there is one first
pub same_clash : (accepted uses : List ShapeForm) (n m : List ℕ) → IsFirstClash accepted uses n
    → IsFirstClash accepted uses m → n ≡ m
same_clash accepted uses n m f g = ⊎_elim
    (λ less. absurd (never_less accepted uses n m f g less))
    (λ more. ⊎_elim
    (λ less. absurd (never_less accepted uses m n g f less))
    (λ less. same_at accepted uses n m f g (omega arith))
    (cases_lt g.place f.place))
    (cases_lt f.place g.place)
