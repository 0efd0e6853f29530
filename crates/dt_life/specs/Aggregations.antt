-- What the clauses of a consumer give to its aggregations. Guide, Aggregations.
use Rattle.std.specs.Prelude.{ℕ, ◌+◌, ℤ, pos, List, [], ◌∷◌, ◌++◌, Option, Some, map, length, take, drop}
use Rattle.std.specs.Prelude.{option_and_then, slice_index_or}
use Rattle.std.specs.List.{flat_map}
use Rattle.std.specs.Option.{option_map, option_map_or, option_to_list}
use Rattle.dt_aggfn.specs.BoundsOf.{bounds_of}
use Rattle.dt_aggfn.specs.declared.function.AggFn.{AggFn}
use Rattle.dt_aggfn.specs.declared.function.AggFn.TheVariants.{Count, Sum, Avg, Min, Max, Quantize, Lquantize}
use Rattle.dt_aggstore.specs.History as store
use Rattle.dt_aggstore.specs.declared.key.Aggregation.{Aggregation}
use Rattle.dt_aggstore.specs.declared.key.KeyPart.{KeyPart}
use Rattle.dt_aggstore.specs.declared.key.KeyPart.TheVariants as part
use Rattle.dt_ecb.specs.Shapes.{FunctionForm, count, sum, avg, min, max, quantize, lquantize, ShapeForm, named}
use Rattle.dt_expr.specs.declared.text.Value.{Value}
use Rattle.dt_expr.specs.declared.text.Value.TheVariants as val
use Rattle.dt_lang.specs.Program.{StatementForm, aggregate}
use Rattle.dt_life.specs.Takings.{Taking, left_by}

-- by which function an aggregation is kept; bounds that are none have no function
abbrev pub function_kept_by : FunctionForm → Option AggFn
function_kept_by count = Some Count
function_kept_by sum = Some Sum
function_kept_by avg = Some Avg
function_kept_by min = Some Min
function_kept_by max = Some Max
function_kept_by quantize = Some Quantize
function_kept_by (lquantize lower upper step) = option_map Lquantize (bounds_of lower upper step)

-- a value as a part of a key
abbrev pub part_of : Value → KeyPart
part_of (val.Number z) = part.Number z
part_of (val.Text bytes) = part.Text bytes

-- a value as the number that an aggregation is given: each is given one
abbrev pub number_given : Value → ℤ
number_given (val.Number z) = z
number_given (val.Text bytes) = pos 0

-- a use of an aggregation: which one, and with how many keys
abbrev pub UseForm : Type 0
UseForm = Option Aggregation × ℕ

-- so many keys, and a number at a place, among the values that a clause left
abbrev pub key_at : ℕ → List Value → List KeyPart
key_at many values = map part_of (take many values)

abbrev pub number_at : List Value → ℕ → ℤ
number_at values place = number_given (slice_index_or values place (val.Number (pos 0)))

-- what a use gives of the values that begin with its own
abbrev pub contribution_at : UseForm → List Value → List store.Event
contribution_at one values =
    option_to_list (option_map (λ a. store.given a (key_at one.1 values) (number_at values one.1)) one.0)

-- what uses give of the values that a clause left: each takes its own, and leaves the rest to those after it
abbrev pub split_by : List UseForm → List Value → List store.Event
split_by [] values = []
split_by (one ∷ uses) values = contribution_at one values ++ split_by uses (drop (one.1 + 1) values)

module _ (shapes : List ShapeForm) where
  -- The aggregation of a name. Its number is the place of the name's first use.
  abbrev pub aggregation_of : List ℕ → Option Aggregation
  aggregation_of name = option_and_then
      (λ (one : ℕ × ShapeForm). option_map (λ f. record { number = one.0; function = f }) (function_kept_by one.1.function))
      (named shapes name)

  -- the uses of aggregations by statements, in order: of which one, and with how many keys
  abbrev pub use_by : StatementForm → List UseForm
  use_by (aggregate name keys call) = (aggregation_of name, length keys) ∷ []
  use_by _ = []

  abbrev pub uses_by : List StatementForm → List UseForm
  uses_by statements = flat_map use_by statements

  -- The contributions of an ECB that is taken: of the values that its clause left, each use takes its keys and a number.
  abbrev pub contributions_of : Taking → List store.Event
  contributions_of t =
      option_map_or (λ form. split_by (uses_by t.ecb.clause.statements) form.values) (left_by t) []
