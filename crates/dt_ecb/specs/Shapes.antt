-- The shapes of aggregations, which of two uses clash, and the numbers of names. Guide, Aggregations.
use Rattle.std.specs.Prelude.{◌≡◌, ℕ, ◌+◌, ◌<◌, ◌&&◌, ◌||◌, Bool, true, false, not, ℤ, List, [], ◌∷◌, ◌++◌, map, take, find, Option, Some, IfSome, slice_get, if◌then◌else◌}
use Rattle.std.specs.List.{flat_map, list_any, enumerate_from}
use Rattle.std.specs.Ordering.{int_eq}
use Rattle.std.specs.Str.{bytes_eq}
use Rattle.dt_program.specs.Program.{ArgForm, CallForm, ClauseForm, StatementForm}
use Rattle.dt_program.specs.Program as program

-- what a key is
pub data KeyKind : Type 0 where
  number text : KeyKind

-- the function of an aggregation, with the bounds of its levels where it has some
pub data FunctionForm : Type 0 where
  count sum avg min max quantize : FunctionForm
  lquantize : (lower upper step : ℤ) → FunctionForm

-- an aggregation: its name, its function, and the kinds of its keys
pub record ShapeForm : Type 0 where
  pub name : List ℕ
  pub function : FunctionForm
  pub keys : List KeyKind

abbrev pub kind_of : ArgForm → KeyKind
kind_of (program.number f) = number
kind_of (program.text t) = text

abbrev pub function_of : CallForm → FunctionForm
function_of program.count = count
function_of (program.sum f) = sum
function_of (program.avg f) = avg
function_of (program.min f) = min
function_of (program.max f) = max
function_of (program.quantize f) = quantize
function_of (program.lquantize f lower upper step) = lquantize lower upper step

-- the aggregation that a statement uses, if it uses one
abbrev pub used_by : StatementForm → List ShapeForm
used_by (program.aggregate name keys call) =
    record { name = name; function = function_of call; keys = map kind_of keys } ∷ []
used_by _ = []

-- all uses of a program's clauses, in order of the text
abbrev pub uses_of : List ClauseForm → List ShapeForm
uses_of clauses = flat_map (λ clause. flat_map used_by clause.statements) clauses

abbrev pub same_function_form : FunctionForm → FunctionForm → Bool
same_function_form count count = true
same_function_form sum sum = true
same_function_form avg avg = true
same_function_form min min = true
same_function_form max max = true
same_function_form quantize quantize = true
same_function_form (lquantize lower upper step) (lquantize lower' upper' step') =
    int_eq lower lower' && (int_eq upper upper' && int_eq step step')
same_function_form _ _ = false

abbrev pub same_kind : KeyKind → KeyKind → Bool
same_kind number number = true
same_kind text text = true
same_kind _ _ = false

-- the same kinds in the same order, and as many
abbrev pub same_kinds : List KeyKind → List KeyKind → Bool
same_kinds [] [] = true
same_kinds (kind ∷ kinds) (other ∷ others) = same_kind kind other && same_kinds kinds others
same_kinds _ _ = false

-- Two uses of one name clash where function, bounds or kinds of keys differ.
abbrev pub clash : ShapeForm → ShapeForm → Bool
clash one other =
    bytes_eq one.name other.name && not (same_function_form one.function other.function && same_kinds one.keys other.keys)

-- a use clashes with an earlier one
abbrev pub clashes : List ShapeForm → ShapeForm → Bool
clashes earlier one = list_any (λ other. clash other one) earlier

-- The first use that clashes with the accepted ones or with an earlier one of the program has this name.
pub record IsFirstClash (accepted uses : List ShapeForm) (name : List ℕ) : Type 0 where
  pub place : ℕ
  pub one : ShapeForm
  pub here : slice_get uses place ≡ Some one
  pub named : one.name ≡ name
  pub is : clashes (accepted ++ take place uses) one ≡ true
  pub before : (i : ℕ) → i < place
      → IfSome (slice_get uses i) (λ earlier. clashes (accepted ++ take i uses) earlier ≡ false)

-- some use clashes with the accepted ones or with an earlier one
abbrev pub any_clash : List ShapeForm → List ShapeForm → Bool
any_clash accepted [] = false
any_clash accepted (one ∷ uses) = clashes accepted one || any_clash (accepted ++ one ∷ []) uses

-- how many names there are
abbrev pub names_count : List ShapeForm → ℕ
names_count [] = 0
names_count (one ∷ shapes) =
    if list_any (λ other. bytes_eq one.name other.name) shapes then names_count shapes else 1 + names_count shapes

-- the first use of a name, with its place among all uses, which is the aggregation's number
abbrev pub named : List ShapeForm → List ℕ → Option (ℕ × ShapeForm)
named shapes name = find (λ (one : ℕ × ShapeForm). bytes_eq one.1.name name) (enumerate_from 0 shapes)
