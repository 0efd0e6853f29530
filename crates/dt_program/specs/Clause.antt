-- What a program is made of, without where it lies in memory.
use Rattle.std.specs.Prelude.{ℕ, List, map, Option, ℤ}
use Rattle.std.specs.Option.{option_map}
use Rattle.dt_expr.specs.Form.{Form, form_of}
use Rattle.dt_expr.specs.declared.text.Text.{Text}
use Rattle.dt_program.specs.Description.{DescForm, form_of_description}
use Rattle.dt_program.specs.declared.clause.Argument.{Argument}
use Rattle.dt_program.specs.declared.clause.Argument.TheVariants as argument
use Rattle.dt_program.specs.declared.clause.Call.{Call}
use Rattle.dt_program.specs.declared.clause.Call.TheVariants as call
use Rattle.dt_program.specs.declared.clause.Clause.{Clause}
use Rattle.dt_program.specs.declared.clause.Statement.{Statement}
use Rattle.dt_program.specs.declared.clause.Statement.TheVariants as statement

pub data ArgForm : Type 0 where
  number : Form → ArgForm
  text : Text → ArgForm

pub data CallForm : Type 0 where
  count : CallForm
  sum avg min max quantize : Form → CallForm
  lquantize : Form → (lower upper step : ℤ) → CallForm

pub data StatementForm : Type 0 where
  trace : ArgForm → StatementForm
  stack ustack : (frames : ℕ) → StatementForm
  exit : Form → StatementForm
  aggregate : (name : List ℕ) (keys : List ArgForm) → CallForm → StatementForm
  assign : (name : List ℕ) → Form → StatementForm
  draw : (name : List ℕ) → StatementForm
  speculate commit discard : Form → StatementForm

pub record ClauseForm : Type 0 where
  pub descriptions : List DescForm
  pub predicate : Option Form
  pub statements : List StatementForm

abbrev pub form_of_argument : Argument → ArgForm
form_of_argument (argument.Number e) = number (form_of e)
form_of_argument (argument.Text t) = text t

abbrev pub form_of_call : Call → CallForm
form_of_call call.Count = count
form_of_call (call.Sum e) = sum (form_of e)
form_of_call (call.Avg e) = avg (form_of e)
form_of_call (call.Min e) = min (form_of e)
form_of_call (call.Max e) = max (form_of e)
form_of_call (call.Quantize e) = quantize (form_of e)
form_of_call (call.Lquantize e b) = lquantize (form_of e) b.lower b.upper b.step

abbrev pub form_of_statement : Statement → StatementForm
form_of_statement (statement.Trace a) = trace (form_of_argument a)
form_of_statement (statement.Stack f) = stack f.count
form_of_statement (statement.Ustack f) = ustack f.count
form_of_statement (statement.Exit e) = exit (form_of e)
form_of_statement (statement.Aggregate a) = aggregate a.name (map form_of_argument a.keys.items) (form_of_call a.call)
form_of_statement (statement.Assign name e) = assign name (form_of e)
form_of_statement (statement.Draw name) = draw name
form_of_statement (statement.Speculate e) = speculate (form_of e)
form_of_statement (statement.Commit e) = commit (form_of e)
form_of_statement (statement.Discard e) = discard (form_of e)

abbrev pub form_of_clause : Clause → ClauseForm
form_of_clause c = record {
  descriptions = map form_of_description c.descriptions.items;
  predicate = option_map form_of c.predicate;
  statements = map form_of_statement c.statements.items;
}
