-- The tests of sameness tell what is one.
use Rattle.std.proofs.Common.{◌≡◌, Bool, true, false, List, refl, sym, ap, ◌∙◌, subst, nat_eq, ◌&&◌}
use Rattle.std.specs.Bool.{Decides}
use Rattle.std.specs.Ordering.{int_eq}
use Rattle.std.specs.Cmp.Lexicographic.{pointwise_decides, bytes_decides}
use Rattle.std.proofs.lemmas.Bool.{false≢true}
use Rattle.std.proofs.lemmas.Bool.Decides.{Decides-eqb, Decides-int_eq}
use Rattle.dt_aggfn.specs.laws.SameBounds.{same_bounds}
use Rattle.dt_aggfn.specs.declared.function.AggFn.{AggFn}
use Rattle.dt_aggfn.specs.declared.function.AggFn.TheVariants.{Count, Sum, Avg, Min, Max, Quantize, Lquantize}
use Rattle.dt_aggfn.specs.declared.levels.Bounds.{Bounds}
use Rattle.dt_aggstore.specs.declared.key.Aggregation.{Aggregation}
use Rattle.dt_aggstore.specs.declared.key.KeyPart.{KeyPart}
use Rattle.dt_aggstore.specs.declared.key.KeyPart.TheVariants.{Number, Text}
use Rattle.dt_aggstore.specs.Keys.{Entry, same_part, same_key, same_function, same_aggregation, same_entry}

-- both parts of a test hold
pub both : (a b : Bool) → (a && b) ≡ true → (a ≡ true) × (b ≡ true)
both true b e = (refl, e)
both false b e = absurd (false≢true e)

pub also : (a b : Bool) → a ≡ true → b ≡ true → (a && b) ≡ true
also true b e f = f
also false b e f = e

-- ---- parts and keys

part_decides : (a b : KeyPart) → Decides (same_part a b) (a ≡ b)
part_decides (Number a) (Number b) = (
  (λ e. ap Number ((Decides-int_eq a b).0 e)),
  (λ e. let f : a ≡ b = cc in (Decides-int_eq a b).1 f),
)
part_decides (Number a) (Text b) = ((λ e. absurd (false≢true e)), (λ e. cc))
part_decides (Text a) (Number b) = ((λ e. absurd (false≢true e)), (λ e. cc))
part_decides (Text a) (Text b) = (
  (λ e. ap Text ((bytes_decides a b).0 e)),
  (λ e. let f : a ≡ b = cc in (bytes_decides a b).1 f),
)

pub key_decides : (a b : List KeyPart) → Decides (same_key a b) (a ≡ b)
key_decides = pointwise_decides part_decides

-- ---- aggregations

are_bounds : (a b : Bounds) → same_function (Lquantize a) (Lquantize b) ≡ true → a ≡ b
are_bounds a b e =
    let more = both (int_eq a.lower b.lower && int_eq a.upper b.upper) (int_eq a.step b.step) e in
    let two = both (int_eq a.lower b.lower) (int_eq a.upper b.upper) more.0 in
    same_bounds a b ((Decides-int_eq a.lower b.lower).0 two.0)
    ((Decides-int_eq a.upper b.upper).0 two.1) ((Decides-int_eq a.step b.step).0 more.1)

function_is : (a b : AggFn) → same_function a b ≡ true → a ≡ b
function_is Count Count e = refl
function_is Sum Sum e = refl
function_is Avg Avg e = refl
function_is Min Min e = refl
function_is Max Max e = refl
function_is Quantize Quantize e = refl
function_is (Lquantize a) (Lquantize b) e = ap Lquantize (are_bounds a b e)
function_is _ _ e = absurd (false≢true e)

own_function : (a : AggFn) → same_function a a ≡ true
own_function (Lquantize a) =
    also (int_eq a.lower a.lower && int_eq a.upper a.upper) (int_eq a.step a.step)
    (also (int_eq a.lower a.lower) (int_eq a.upper a.upper) ((Decides-int_eq a.lower a.lower).1 refl)
    ((Decides-int_eq a.upper a.upper).1 refl)) ((Decides-int_eq a.step a.step).1 refl)
own_function _ = refl

pub aggregation_is : (a b : Aggregation) → same_aggregation a b ≡ true → a ≡ b
aggregation_is a b e =
    let two = both (nat_eq a.number b.number) (same_function a.function b.function) e in
    let number = (Decides-eqb a.number b.number).0 two.0 in
    let function = function_is a.function b.function two.1 in
    λ i. record { number = number i; function = function i }

pub own_aggregation : (a : Aggregation) → same_aggregation a a ≡ true
own_aggregation a =
    also (nat_eq a.number a.number) (same_function a.function a.function) ((Decides-eqb a.number a.number).1 refl)
    (own_function a.function)

-- ---- entries

pub entry_is : (a b : Entry) → same_entry a b ≡ true → a ≡ b
entry_is a b e =
    let two = both (same_aggregation a.aggregation b.aggregation) (same_key a.key b.key) e in
    let aggregation = aggregation_is a.aggregation b.aggregation two.0 in
    let key = (key_decides a.key b.key).0 two.1 in
    λ i. record { aggregation = aggregation i; key = key i }

pub own_entry : (a : Entry) → same_entry a a ≡ true
own_entry a =
    also (same_aggregation a.aggregation a.aggregation) (same_key a.key a.key) (own_aggregation a.aggregation)
    ((key_decides a.key a.key).1 refl)

-- entries that are told apart are two
pub two_entries : (a b : Entry) → same_entry a b ≡ false → a ≡ b → ⊥
two_entries a b e same = false≢true (sym e ∙ subst (λ x. same_entry a x ≡ true) same (own_entry a))

-- a test is the same both ways
pub entry_back : (a b : Entry) → same_entry a b ≡ false → same_entry b a ≡ false
entry_back a b e = by (same_entry b a) refl
  where
    by : (t : Bool) → same_entry b a ≡ t → same_entry b a ≡ false
    by true f = absurd (two_entries a b e (sym (entry_is b a f)))
    by false f = f
