-- What a clause's record shows of its scene, and within which bounds a scene and a clause lie.
use Rattle.std.specs.Prelude.{◌≡◌, ℕ, ◌+◌, ◌^◌, ◌<◌, ◌≤◌, List, [], ◌∷◌, length, Option, Some, None, take, slice_get, zip, FitsSigned}
use Rattle.std.specs.Int.{w64}
use Rattle.std.specs.List.{filter, AllByRecursion}
use Rattle.dt_names.specs.Limits.{padded_size}
use Rattle.dt_cred.specs.Limits.{frame_count}
use Rattle.dt_expr.specs.Form.{Form, Num, Named, Local, Prefixed, Joined, Compared}
use Rattle.dt_expr.specs.Scene.{SceneForm, number_named, text_named, text_bytes, padded}
use Rattle.dt_expr.specs.Value.{value}
use Rattle.dt_expr.specs.declared.scene.NumberVariable.{NumberVariable}
use Rattle.dt_expr.specs.declared.scene.TextVariable.{TextVariable}
use Rattle.dt_expr.specs.declared.text.Text.{Text}
use Rattle.dt_expr.specs.declared.text.Text.TheVariants.{Literal, Variable}
use Rattle.dt_locals.specs.Chosen.{value_after}
use Rattle.dt_locals.specs.History.{LocalsPast}
use Rattle.dt_locals.specs.declared.variable.LocalVariable.{LocalVariable}
use Rattle.dt_program.specs.Limits.{frames_max}
use Rattle.dt_program.specs.Clause.{ClauseForm, StatementForm}
use Rattle.dt_program.specs.Clause as program
use Rattle.dt_speculation.specs.Limits.{nspec_max}
use Rattle.dt_record.specs.Layout.{FieldForm, layout_size}
use Rattle.dt_record.specs.Split.{RecordedForm, RecordForm, AreFrames, FitAll, record_bytes}
use Rattle.dt_record.specs.Split as split
use Rattle.dt_record.specs.Taking.{TakenForm, Effect, is_recording, leaves, past_with, taking}
use Rattle.dt_record.specs.Pasts.{TracingPast}

-- The numbers of the scene have 64 bits with a sign, its texts are no longer than a record shows them, and each of its
-- stacks has so many frames.
pub record IsSceneInBounds (scene : SceneForm) : Type 0 where
  pub numbers : (variable : NumberVariable) → FitsSigned w64 (number_named scene variable)
  pub texts : (variable : TextVariable) → length (text_named scene variable) ≤ padded_size
  pub kstack : AreFrames frame_count scene.firing.kstack
  pub ustack : AreFrames frame_count scene.firing.ustack

-- the variables have 64 bits with a sign
abbrev pub AreLocalsInBounds : LocalsPast → Type 0
AreLocalsInBounds locals = (variable : LocalVariable) → FitsSigned w64 (value_after locals variable)

-- the numbers that are written in an expression have 64 bits with a sign
abbrev pub IsExpressionInBounds : Form → Type 0
IsExpressionInBounds (Num z) = FitsSigned w64 z
IsExpressionInBounds (Named variable) = Unit {0}
IsExpressionInBounds (Local name) = Unit {0}
IsExpressionInBounds (Prefixed op operand) = IsExpressionInBounds operand
IsExpressionInBounds (Joined op left right) = IsExpressionInBounds left × IsExpressionInBounds right
IsExpressionInBounds (Compared op left right) = Unit {0}

-- a text that is written is no longer than a record shows it
abbrev pub IsTextInBounds : Text → Type 0
IsTextInBounds (Literal bytes) = length bytes ≤ padded_size
IsTextInBounds (Variable variable) = Unit {0}

-- a stack is asked for no more frames than it has
abbrev pub IsStatementInBounds : StatementForm → Type 0
IsStatementInBounds (program.trace (program.number f)) = IsExpressionInBounds f
IsStatementInBounds (program.trace (program.text t)) = IsTextInBounds t
IsStatementInBounds (program.stack n) = n ≤ frames_max
IsStatementInBounds (program.ustack n) = n ≤ frames_max
IsStatementInBounds (program.assign name f) = IsExpressionInBounds f
IsStatementInBounds _ = Unit {0}

-- What a scene, a past and a clause have to meet, so that what the clause leaves fits its layout. Their types hold nothing else.
pub record CanBeTaken (scene : SceneForm) (past : TracingPast) (clause : ClauseForm) : Type 0 where
  pub scene_in_bounds : IsSceneInBounds scene
  pub locals_in_bounds : AreLocalsInBounds past.locals
  pub few_identifiers : past.specs.nspec ≤ nspec_max
  pub statements_in_bounds : AllByRecursion IsStatementInBounds clause.statements

-- What the length of a record hangs on: the texts of a scene are no longer than a record shows them, and its stacks have
-- so many frames.
pub record HasLengths (scene : SceneForm) : Type 0 where
  pub texts : (variable : TextVariable) → length (text_named scene variable) ≤ padded_size
  pub kstack : length scene.firing.kstack ≡ frame_count
  pub ustack : length scene.firing.ustack ≡ frame_count

-- the same of a statement, whatever numbers are written in it
abbrev pub IsOfLength : StatementForm → Type 0
IsOfLength (program.trace (program.text t)) = IsTextInBounds t
IsOfLength (program.stack n) = n ≤ frames_max
IsOfLength (program.ustack n) = n ≤ frames_max
IsOfLength _ = Unit {0}

-- A value is what a statement shows of a scene after a past: the expression's number, the text with its zeros, the first frames.
abbrev pub ShowsStatement : SceneForm → TracingPast → StatementForm → RecordedForm → Type 0
ShowsStatement scene past (program.trace (program.number f)) (split.number z) = value scene past.locals f ≡ Some z
ShowsStatement scene past (program.trace (program.text t)) (split.text bytes) = bytes ≡ padded (text_bytes scene t)
ShowsStatement scene past (program.stack n) (split.frames list) = list ≡ take n scene.firing.kstack
ShowsStatement scene past (program.ustack n) (split.frames list) = list ≡ take n scene.firing.ustack
ShowsStatement scene past _ _ = ⊥

-- the pasts after which statements are performed that have these effects
abbrev pub pasts_from : TracingPast → List Effect → List TracingPast
pasts_from past [] = []
pasts_from past (effect ∷ effects) = past ∷ pasts_from (past_with past (effect ∷ [])) effects

-- as many values as statements, each shown by its own after its past
abbrev pub ShowAll : SceneForm → List (TracingPast × StatementForm) → List RecordedForm → Type 0
ShowAll scene [] [] = Unit {0}
ShowAll scene (one ∷ statements) (value ∷ values) = ShowsStatement scene one.0 one.1 value × ShowAll scene statements values
ShowAll scene _ _ = ⊥

-- the recording statements of a clause, each with the past after which it is performed
abbrev pub recording_statements : ℕ → SceneForm → TracingPast → ClauseForm → List (TracingPast × StatementForm)
recording_statements epid scene past clause = filter (λ (one : TracingPast × StatementForm). is_recording one.1)
    (zip (pasts_from past (taking epid scene past clause).effects) clause.statements)

-- The bytes are a record with this EPID and a value for each of these fields, in order: what the recording statements
-- of the clause show of the scene, each after what those before it assigned and drew. They are as many as the layout says.
pub record IsRecordFrom (epid : ℕ) (scene : SceneForm) (past : TracingPast) (clause : ClauseForm) (fields : List FieldForm)
    (bytes : List ℕ) : Type 0 where
  pub written : RecordForm
  pub numbered : written.epid ≡ epid
  pub shown : ShowAll scene (recording_statements epid scene past clause) written.values
  pub fit : FitAll fields written.values
  pub same : record_bytes written ≡ bytes
  pub long : length bytes ≡ layout_size (Some fields)

-- bytes of such a record where there is a layout, and none where there is none
abbrev pub FitLayout : ℕ → SceneForm → TracingPast → ClauseForm → Option (List FieldForm) → Option (List ℕ) → Type 0
FitLayout epid scene past clause (Some fields) (Some bytes) = IsRecordFrom epid scene past clause fields bytes
FitLayout epid scene past clause None None = Unit {0}
FitLayout epid scene past clause _ _ = ⊥

-- The bytes are a record that one of these clauses left of a scene. EPIDs count from 1, in the clauses' order.
pub record IsLeftBy (clauses : List ClauseForm) (bytes : List ℕ) : Type 0 where
  pub place : ℕ
  pub small : place + 1 < 2 ^ 32
  pub clause : ClauseForm
  pub there : slice_get clauses place ≡ Some clause
  pub scene : SceneForm
  pub past : TracingPast
  pub can : CanBeTaken scene past clause
  pub left : TakenForm
  pub taken : (taking (place + 1) scene past clause).outcome ≡ leaves left
  pub these : left.record_bytes ≡ Some bytes
