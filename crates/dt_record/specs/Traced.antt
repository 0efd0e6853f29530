-- Clauses that record one number, which a variable names. Guide, Program Structure (actions); Variables.
use Rattle.std.specs.Prelude.{List, [], ◌∷◌, Option, Some, None}
use Rattle.std.specs.Option.{option_map_or}
use Rattle.dt_expr.specs.Form.{Named}
use Rattle.dt_expr.specs.declared.scene.NumberVariable.{NumberVariable}
use Rattle.dt_program.specs.Clause.{ArgForm, ClauseForm, StatementForm}
use Rattle.dt_program.specs.Clause as program

-- the variable that an argument is, where it is one that names a number
abbrev pub variable_in : ArgForm → Option NumberVariable
variable_in (program.number (Named variable)) = Some variable
variable_in _ = None

-- the variable that a statement traces
abbrev pub variable_of : StatementForm → Option NumberVariable
variable_of (program.trace a) = variable_in a
variable_of _ = None

-- the variable that one statement traces, which is alone
abbrev pub variable_alone : List StatementForm → Option NumberVariable
variable_alone (statement ∷ []) = variable_of statement
variable_alone _ = None

-- the variable whose number a clause records at each of its probe's firings: it is one trace of that variable, without a predicate
abbrev pub traced_variable : ClauseForm → Option NumberVariable
traced_variable clause = option_map_or (λ f. None) clause.predicate (variable_alone clause.statements)
