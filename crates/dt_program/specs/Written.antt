-- Within which bounds the numbers, the texts and the lists of a program lie that is written as a text. Guide, Program
-- Structure; Actions and Subroutines; Aggregations.
use Rattle.std.specs.Prelude.{ℕ, ℤ, ◌+◌, ◌≤◌, List, length, IfSome, FitsSigned}
use Rattle.std.specs.Int.{w64}
use Rattle.std.specs.List.{AllByRecursion}
use Rattle.dt_names.specs.Limits.{name_max, short_text_max}
use Rattle.dt_expr.specs.Form.{Form, Num, Named, Local, Prefixed, Joined, Compared}
use Rattle.dt_expr.specs.declared.text.Text.{Text}
use Rattle.dt_expr.specs.declared.text.Text.TheVariants.{Literal, Variable}
use Rattle.dt_aggfn.specs.Bounds.{AreBounds}
use Rattle.dt_program.specs.Clause.{ArgForm, CallForm, StatementForm, ClauseForm}
use Rattle.dt_program.specs.Clause as program
use Rattle.dt_program.specs.Limits.{descriptions_max, statements_max, keys_max, frames_max, clauses_max, tokens_max}

abbrev pub IsWrittenText : Text → Type 0
IsWrittenText (Literal bytes) = length bytes ≤ short_text_max
IsWrittenText (Variable variable) = Unit {0}

-- the numbers of an expression have 64 bits with a sign, and its texts and names are short
abbrev pub HasWrittenParts : Form → Type 0
HasWrittenParts (Num z) = FitsSigned w64 z
HasWrittenParts (Named variable) = Unit {0}
HasWrittenParts (Local name) = length name ≤ name_max
HasWrittenParts (Prefixed op operand) = HasWrittenParts operand
HasWrittenParts (Joined op left right) = HasWrittenParts left × HasWrittenParts right
HasWrittenParts (Compared op left right) = IsWrittenText left × IsWrittenText right

-- how many tokens an expression has, without its parentheses
abbrev pub parts_count : Form → ℕ
parts_count (Num z) = 1
parts_count (Named variable) = 1
parts_count (Local name) = 3
parts_count (Prefixed op operand) = 1 + parts_count operand
parts_count (Joined op left right) = parts_count left + 1 + parts_count right
parts_count (Compared op left right) = 3

pub record IsWrittenExpression (f : Form) : Type 0 where
  pub parts : HasWrittenParts f
  pub few : parts_count f ≤ tokens_max

abbrev pub IsWrittenArgument : ArgForm → Type 0
IsWrittenArgument (program.number f) = IsWrittenExpression f
IsWrittenArgument (program.text t) = IsWrittenText t

-- bounds of levels, of 64 bits with a sign
pub record AreWrittenBounds (lower upper step : ℤ) : Type 0 where
  pub lower_fits : FitsSigned w64 lower
  pub upper_fits : FitsSigned w64 upper
  pub step_fits : FitsSigned w64 step
  pub levels : AreBounds lower upper step

abbrev pub IsWrittenCall : CallForm → Type 0
IsWrittenCall program.count = Unit {0}
IsWrittenCall (program.sum f) = IsWrittenExpression f
IsWrittenCall (program.avg f) = IsWrittenExpression f
IsWrittenCall (program.min f) = IsWrittenExpression f
IsWrittenCall (program.max f) = IsWrittenExpression f
IsWrittenCall (program.quantize f) = IsWrittenExpression f
IsWrittenCall (program.lquantize f lower upper step) = IsWrittenExpression f × AreWrittenBounds lower upper step

abbrev pub AreWrittenFrames : ℕ → Type 0
AreWrittenFrames n = (1 ≤ n) × (n ≤ frames_max)

pub record IsWrittenUse (name : List ℕ) (keys : List ArgForm) (call : CallForm) : Type 0 where
  pub short : length name ≤ short_text_max
  pub few : length keys ≤ keys_max
  pub keys_written : AllByRecursion IsWrittenArgument keys
  pub call_written : IsWrittenCall call

pub record IsWrittenAssignment (name : List ℕ) (f : Form) : Type 0 where
  pub short : length name ≤ name_max
  pub value_written : IsWrittenExpression f

abbrev pub IsWrittenStatement : StatementForm → Type 0
IsWrittenStatement (program.trace a) = IsWrittenArgument a
IsWrittenStatement (program.stack n) = AreWrittenFrames n
IsWrittenStatement (program.ustack n) = AreWrittenFrames n
IsWrittenStatement (program.exit f) = IsWrittenExpression f
IsWrittenStatement (program.aggregate name keys call) = IsWrittenUse name keys call
IsWrittenStatement (program.assign name f) = IsWrittenAssignment name f
IsWrittenStatement (program.draw name) = length name ≤ name_max
IsWrittenStatement (program.speculate f) = IsWrittenExpression f
IsWrittenStatement (program.commit f) = IsWrittenExpression f
IsWrittenStatement (program.discard f) = IsWrittenExpression f

pub record IsWrittenClause (clause : ClauseForm) : Type 0 where
  pub described : 1 ≤ length clause.descriptions
  pub few_descriptions : length clause.descriptions ≤ descriptions_max
  pub guarded : IfSome clause.predicate IsWrittenExpression
  pub few : length clause.statements ≤ statements_max
  pub stated : AllByRecursion IsWrittenStatement clause.statements

-- A program that can be written, as its clauses.
pub record IsWrittenProgram (clauses : List ClauseForm) : Type 0 where
  pub some : 1 ≤ length clauses
  pub few : length clauses ≤ clauses_max
  pub each : AllByRecursion IsWrittenClause clauses
