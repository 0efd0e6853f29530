-- What is known of a name that is found: its name and its aggregation.
use Rattle.std.proofs.Common.{◌≡◌, ℕ, List, Option, Some, None, refl, sym, ap, ◌∙◌}
use Rattle.std.specs.List.{enumerate_from}
use Rattle.std.specs.Option.{option_and_then, option_map}
use Rattle.std.specs.Str.{bytes_eq}
use Rattle.std.proofs.lemmas.Slice.Eq.{bytes_eq-Decides}
use Rattle.dt_aggfn.specs.declared.function.AggFn.{AggFn}
use Rattle.dt_aggfn.specs.declared.function.AggFn.TheVariants.{Count, Sum, Avg, Min, Max, Quantize, Lquantize}
use Rattle.dt_aggfn.specs.laws.BoundsOf.{bounds_of_own}
use Rattle.dt_aggstore.specs.declared.key.Aggregation.{Aggregation}
use Rattle.dt_ecb.specs.Forms.{form_of_function, form_of_named}
use Rattle.dt_ecb.specs.Shapes.{FunctionForm, ShapeForm, named}
use Rattle.dt_ecb.specs.declared.shapes.NumberedAggregation.{NumberedAggregation}
use Rattle.dt_life.specs.Aggregations.{function_kept_by, aggregation_of}
use Rattle.dt_life.specs.laws.Lists.{find_passes}

abbrev parts : ℕ × ShapeForm → ℕ × (List ℕ × FunctionForm)
parts one = (one.0, (one.1.name, one.1.function))

some_is : {X : Type 0} {a b : X} → Some a ≡ Some b → a ≡ b
some_is h = cc

found_name : (shapes : List ShapeForm) (name : List ℕ) (one : ℕ × ShapeForm) → named shapes name ≡ Some one
    → one.1.name ≡ name
found_name shapes name one e =
    (bytes_eq-Decides one.1.name name).0
    (find_passes (λ (x : ℕ × ShapeForm). bytes_eq x.1.name name) (enumerate_from 0 shapes) one e)

same_name : (n : NumberedAggregation) (shapes : List ShapeForm) (name : List ℕ) (o : Option (ℕ × ShapeForm))
    → named shapes name ≡ o → Some (form_of_named n) ≡ option_map parts o → n.name ≡ name
same_name n shapes name None e h = cc
same_name n shapes name (Some one) e h =
    ap (λ (x : ℕ × (List ℕ × FunctionForm)). x.1.0) (some_is h) ∙ found_name shapes name one e

-- the name of an aggregation that is found is the one that was asked for
pub named_so : (shapes : List ShapeForm) (name : List ℕ) (o : Option NumberedAggregation) (n : NumberedAggregation) → o ≡ Some n
    → option_map form_of_named o ≡ option_map parts (named shapes name) → n.name ≡ name
named_so shapes name o n is h =
    same_name n shapes name (named shapes name) refl (sym (ap (option_map form_of_named) is) ∙ h)

-- a function that is kept is kept as it is
kept_so : (f : AggFn) → function_kept_by (form_of_function f) ≡ Some f
kept_so Count = refl
kept_so Sum = refl
kept_so Avg = refl
kept_so Min = refl
kept_so Max = refl
kept_so Quantize = refl
kept_so (Lquantize bounds) = ap (option_map Lquantize) (bounds_of_own bounds)

abbrev numbered : ℕ → AggFn → Aggregation
numbered number f = record { number = number; function = f }

abbrev aggregation_by : ℕ × (List ℕ × FunctionForm) → Option Aggregation
aggregation_by one = option_map (numbered one.0) (function_kept_by one.1.1)

by_form : (n : NumberedAggregation) → Some (numbered n.number n.function) ≡ aggregation_by (form_of_named n)
by_form n = sym (ap (option_map (numbered n.number)) (kept_so n.function))

same_aggregation : (n : NumberedAggregation) (o : Option (ℕ × ShapeForm)) → Some (form_of_named n) ≡ option_map parts o
    → Some (numbered n.number n.function) ≡ option_and_then (λ one. aggregation_by (parts one)) o
same_aggregation n None h = cc
same_aggregation n (Some one) h = by_form n ∙ ap aggregation_by (some_is h)

-- the aggregation of a name that is found has its number and its function
pub aggregation_so : (shapes : List ShapeForm) (name : List ℕ) (o : Option NumberedAggregation) (n : NumberedAggregation) → o ≡ Some n
    → option_map form_of_named o ≡ option_map parts (named shapes name)
    → Some (numbered n.number n.function) ≡ aggregation_of shapes name
aggregation_so shapes name o n is h =
    same_aggregation n (named shapes name) (sym (ap (option_map form_of_named) is) ∙ h)
