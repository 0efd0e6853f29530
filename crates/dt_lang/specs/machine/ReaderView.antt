-- Private to the proofs.
-- What contracts see of a reader of programs.
use Rattle.std.specs.Prelude.{◌≡◌, ℕ, Bool, true, false, List, map, Option, Some, None, Result, Ok, Err}
use Rattle.std.specs.Option.{option_map}
use Rattle.dt_expr.specs.Form.{form_of}
use Rattle.dt_program.specs.Description.{form_of_description}
use Rattle.dt_lang.specs.declared.fault.LangFault.{LangFault}
use Rattle.dt_lang.specs.declared.fault.LangFault.TheVariants as lang
use Rattle.dt_lang.specs.declared.reader.ProgramReader.{ProgramReader}
use Rattle.dt_lang.specs.Reads.{IsRefusedProgram, Reads, program}
use Rattle.dt_lang.specs.Refused.{because, destroys}
use Rattle.dt_lang.specs.machine.ClauseState.{ProgramState, program_at}
use Rattle.dt_lang.specs.machine.ExpressionView.{state_of}
use Rattle.dt_lang.specs.machine.PlaceView.{place_form}
use Rattle.dt_program.specs.Clause.{ClauseForm, form_of_clause, form_of_statement}
use Rattle.dt_program.specs.Program.{form_of_program}
use Rattle.dt_program.specs.declared.program.Program.{Program}

-- the whole clauses
abbrev pub clauses_of : ProgramReader → List ClauseForm
clauses_of r = map form_of_clause r.clauses.items

-- what was read of the next clause
abbrev pub clause_of : ProgramReader → ClauseForm
clause_of r = record {
  descriptions = map form_of_description r.descriptions.items;
  predicate = option_map form_of r.predicate;
  statements = map form_of_statement r.statements.items;
}

-- the state of a reader
abbrev pub program_state_of : ProgramReader → ProgramState
program_state_of r = program_at (clauses_of r) (clause_of r) (place_form (state_of r.expression) r.place)

-- The token leads to this state, or says that it leads nowhere.
abbrev pub Leads : Option ProgramState → Bool → ProgramState → Type 0
Leads next true new = next ≡ Some new
Leads next false new = next ≡ None

-- what a reader of texts answers: the program or the fault as which the text is read, or that memory ran out
abbrev pub AnsweredText : List ℕ → Result Program LangFault → Type 0
AnsweredText text (Ok p) = Reads text (program (form_of_program p))
AnsweredText text (Err (lang.Program at end flaw)) = IsRefusedProgram text at end (because flaw)
AnsweredText text (Err (lang.Destructive at end what)) = IsRefusedProgram text at end (destroys what)
AnsweredText text (Err lang.Memory) = Unit {0}
