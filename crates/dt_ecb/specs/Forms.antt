-- ECBs, shapes and names of aggregations without where they lie in memory, and what a fault says.
use Rattle.std.specs.Prelude.{ℕ, List, [], None, Option, Some, map, slice_index_or}
use Rattle.dt_aggfn.specs.declared.function.AggFn.{AggFn}
use Rattle.dt_aggfn.specs.declared.function.AggFn.TheVariants as function
use Rattle.dt_program.specs.Program.{ClauseForm}
use Rattle.dt_ecb.specs.Ecbs.{EcbForm}
use Rattle.dt_ecb.specs.Enable.{EnableVerdict, privilege, clash, unmatched, limit}
use Rattle.dt_ecb.specs.Shapes.{KeyKind, number, text, FunctionForm, count, sum, avg, min, max, quantize, lquantize, ShapeForm}
use Rattle.dt_ecb.specs.declared.fault.EnableFault.{EnableFault}
use Rattle.dt_ecb.specs.declared.fault.EnableFault.TheVariants.{Privilege, AggClash, NoMatch, Limit, Memory}
use Rattle.dt_ecb.specs.declared.parts.Ecb.{Ecb}
use Rattle.dt_ecb.specs.declared.shape.KeyKind as kinds
use Rattle.dt_ecb.specs.declared.shape.KeyKind.TheVariants as kind
use Rattle.dt_ecb.specs.declared.shape.Shape.{Shape}
use Rattle.dt_ecb.specs.declared.shapes.NumberedAggregation.{NumberedAggregation}
use Rattle.dt_ecb.specs.declared.shapes.Shapes.{Shapes}

-- where no clause stands
abbrev pub no_clause : ClauseForm
no_clause = record { descriptions = []; predicate = None; statements = [] }

-- an ECB of these clauses
abbrev pub form_of_ecb : List ClauseForm → Ecb → EcbForm
form_of_ecb clauses ecb =
    record { epid = ecb.epid; probe = ecb.probe; clause = slice_index_or clauses ecb.clause no_clause }

abbrev pub form_of_kind : kinds.KeyKind → KeyKind
form_of_kind kind.Number = number
form_of_kind kind.Text = text

abbrev pub form_of_function : AggFn → FunctionForm
form_of_function function.Count = count
form_of_function function.Sum = sum
form_of_function function.Avg = avg
form_of_function function.Min = min
form_of_function function.Max = max
form_of_function function.Quantize = quantize
form_of_function (function.Lquantize bounds) = lquantize bounds.lower bounds.upper bounds.step

abbrev pub form_of_shape : Shape → ShapeForm
form_of_shape shape = record {
  name = shape.name;
  function = form_of_function shape.function;
  keys = map form_of_kind shape.keys.items;
}

-- the uses of the accepted programs, in order
abbrev pub shapes_of : Shapes → List ShapeForm
shapes_of shapes = map form_of_shape shapes.uses.items

-- a named aggregation: its number, its name and its function
abbrev pub form_of_named : NumberedAggregation → ℕ × (List ℕ × FunctionForm)
form_of_named one = (one.number, (one.name, form_of_function one.function))

-- what a fault says of the program; that memory ran out says nothing of it
abbrev pub verdict_of : EnableFault → Option EnableVerdict
verdict_of (Privilege clause what) = Some (privilege clause)
verdict_of (AggClash what) = Some (clash what)
verdict_of (NoMatch clause) = Some (unmatched clause)
verdict_of Limit = Some limit
verdict_of Memory = None
