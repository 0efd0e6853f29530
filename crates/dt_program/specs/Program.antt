-- What a program is, without where it lies in memory, with what its clauses are.
use Rattle.std.specs.Prelude.{List, map}
use Rattle.dt_program.specs.declared.program.Program.{Program}
pub use Rattle.dt_program.specs.Clause.{ArgForm, number, text, CallForm, count, sum, avg, min, max, quantize, lquantize}
pub use Rattle.dt_program.specs.Clause.{StatementForm, trace, stack, ustack, exit, aggregate, assign, draw, speculate, commit, discard, ClauseForm}
pub use Rattle.dt_program.specs.Clause.{form_of_argument, form_of_call, form_of_statement, form_of_clause}

abbrev pub form_of_program : Program → List ClauseForm
form_of_program p = map form_of_clause p.clauses.items
