-- What becomes of a clause where it is taken. Guide, Program Structure (predicates and actions).
use Rattle.std.specs.Prelude.{ℕ, ℤ, pos, negsuc, Bool, true, false, List, [], ◌∷◌, ◌++◌, Option, Some, None, take, if◌then◌else◌, ◌==◌, ◌&&◌, ◌||◌, not, nat_lt, length}
use Rattle.std.specs.Int.{w64, cast_unsigned}
use Rattle.std.specs.List.{flat_map, list_all, list_any}
use Rattle.std.specs.Option.{option_map, option_map_or, option_and_then, option_or}
use Rattle.byteorder.specs.Endian.{big_bytes}
use Rattle.dt_expr.specs.Form.{Form}
use Rattle.dt_expr.specs.Operators.{holds}
use Rattle.dt_expr.specs.Scene.{SceneForm, text_value}
use Rattle.dt_expr.specs.Value.{value}
use Rattle.dt_expr.specs.declared.text.Value.{Value}
use Rattle.dt_expr.specs.declared.text.Value.TheVariants as val
use Rattle.dt_locals.specs.History.{Assignment, LocalsPast, assigned}
use Rattle.dt_program.specs.Clause.{ArgForm, CallForm, ClauseForm, StatementForm}
use Rattle.dt_program.specs.Clause as program
use Rattle.dt_program.specs.Kinds.{statement_kind, is_recording_kind, is_speculating_kind}
use Rattle.dt_speculation.specs.History.{SpecEvent}
use Rattle.dt_speculation.specs.History as spec
use Rattle.dt_speculation.specs.Parts.{draw_answer}
use Rattle.dt_record.specs.Limits.{epid_size}
use Rattle.dt_record.specs.Pasts.{TracingPast, past_then}

-- a number in a record: eight bytes, two's complement, the highest first
abbrev pub number_bytes : ℤ → List ℕ
number_bytes z = big_bytes 8 (cast_unsigned w64 z)

-- an EPID in a record: four bytes, the highest first
abbrev pub epid_bytes : ℕ → List ℕ
epid_bytes epid = big_bytes epid_size epid

-- the first frames of a stack in a record: eight bytes each, the highest first
abbrev pub frames_bytes : ℕ → List ℕ → List ℕ
frames_bytes n frames = flat_map (big_bytes 8) (take n frames)

-- a value in a record: a text has its zeros already
abbrev pub value_bytes : Value → List ℕ
value_bytes (val.Number z) = number_bytes z
value_bytes (val.Text bytes) = bytes

-- the value of an argument, or none where a division by zero is evaluated
abbrev pub argument_value : SceneForm → LocalsPast → ArgForm → Option Value
argument_value scene locals (program.number f) = option_map val.Number (value scene locals f)
argument_value scene locals (program.text t) = Some (text_value scene t)

-- what an aggregation is given: a number, which is 0 by `count`
abbrev pub given : SceneForm → LocalsPast → CallForm → Option Value
given scene locals program.count = Some (val.Number (pos 0))
given scene locals (program.sum f) = option_map val.Number (value scene locals f)
given scene locals (program.avg f) = option_map val.Number (value scene locals f)
given scene locals (program.min f) = option_map val.Number (value scene locals f)
given scene locals (program.max f) = option_map val.Number (value scene locals f)
given scene locals (program.quantize f) = option_map val.Number (value scene locals f)
given scene locals (program.lquantize f lower upper step) = option_map val.Number (value scene locals f)

-- what each gives, or none where one gives none
abbrev pub each : {A B : Type 0} → (A → Option B) → List A → Option (List B)
each f [] = Some []
each f (x ∷ xs) = option_and_then (λ y. option_map (λ ys. y ∷ ys) (each f xs)) (f x)

-- a number as an identifier: a negative one names none, as 0 does
abbrev pub identifier : ℤ → ℕ
identifier (pos n) = n
identifier (negsuc n) = 0

-- the end of a speculation: its records go to the principal buffers, or are thrown away
pub data SpecEndForm : Type 0 where
  committed discarded : (id : ℕ) → SpecEndForm

-- the assignment of a value to the variable of a name of the thread in which the probe fired
abbrev pub assignment_in : SceneForm → List ℕ → ℤ → Assignment
assignment_in scene name z = assigned scene.firing.pid scene.firing.tid name z

-- What a statement does: it puts bytes into the record, gives its keys and a number to an aggregation, ends tracing, assigns
-- to a variable, draws an identifier and assigns it, directs the record to a speculation, or ends one.
pub data Effect : Type 0 where
  records : (bytes : List ℕ) → Effect
  gives : (values : List Value) → Effect
  exits : (status : ℤ) → Effect
  assigns : Assignment → Effect
  draws : (answer : ℕ) → Assignment → Effect
  speculates : (id : ℕ) → Effect
  ends : SpecEndForm → Effect

-- the draw of an identifier, the least that isn't in use after a past, for the variable of a name
abbrev pub draw_effect : SceneForm → TracingPast → List ℕ → Effect
draw_effect scene past name =
    draws (draw_answer past.specs) (assignment_in scene name (pos (draw_answer past.specs)))

-- what a statement does in a scene after a past, or none where a division by zero is evaluated in it
abbrev pub effect : SceneForm → TracingPast → StatementForm → Option Effect
effect scene past (program.trace a) = option_map (λ v. records (value_bytes v)) (argument_value scene past.locals a)
effect scene past (program.stack n) = Some (records (frames_bytes n scene.firing.kstack))
effect scene past (program.ustack n) = Some (records (frames_bytes n scene.firing.ustack))
effect scene past (program.exit f) = option_map exits (value scene past.locals f)
effect scene past (program.aggregate name keys call) =
    option_and_then (λ values. option_map (λ number. gives (values ++ number ∷ [])) (given scene past.locals call))
    (each (argument_value scene past.locals) keys)
effect scene past (program.assign name f) =
    option_map (λ z. assigns (assignment_in scene name z)) (value scene past.locals f)
effect scene past (program.draw name) = Some (draw_effect scene past name)
effect scene past (program.speculate f) = option_map (λ z. speculates (identifier z)) (value scene past.locals f)
effect scene past (program.commit f) = option_map (λ z. ends (committed (identifier z))) (value scene past.locals f)
effect scene past (program.discard f) = option_map (λ z. ends (discarded (identifier z))) (value scene past.locals f)

-- what it puts into the record
abbrev pub recorded : Effect → List ℕ
recorded (records bytes) = bytes
recorded _ = []

-- what it gives to an aggregation: the keys, and then the value
abbrev pub contributed : Effect → List Value
contributed (gives values) = values
contributed _ = []

-- the status with which it ends tracing
abbrev pub effect_exit : Effect → Option ℤ
effect_exit (exits status) = Some status
effect_exit _ = None

-- what it assigns
abbrev pub assigned_by : Effect → List Assignment
assigned_by (assigns assignment) = assignment ∷ []
assigned_by (draws answer assignment) = assignment ∷ []
assigned_by _ = []

-- the draw that it makes
abbrev pub drawn_by : Effect → List SpecEvent
drawn_by (draws answer assignment) = spec.draw answer ∷ []
drawn_by _ = []

-- the identifier that it directs the record to
abbrev pub effect_spec : Effect → Option ℕ
effect_spec (speculates id) = Some id
effect_spec _ = None

-- the speculation that it ends
abbrev pub ended_by : Effect → List SpecEndForm
ended_by (ends end) = end ∷ []
ended_by _ = []

-- what the first effect has of which one has it
abbrev pub first_some : {A : Type 0} → (Effect → Option A) → List Effect → Option A
first_some f [] = None
first_some f (effect ∷ effects) = option_or (f effect) (first_some f effects)

-- a statement that puts something into the record
abbrev pub is_recording : StatementForm → Bool
is_recording statement = is_recording_kind (statement_kind statement)

-- a statement that directs the record to a speculation
abbrev pub is_speculating : StatementForm → Bool
is_speculating statement = is_speculating_kind (statement_kind statement)

-- a statement that does either
abbrev pub asks_for_record : StatementForm → Bool
asks_for_record statement = is_recording statement || is_speculating statement

-- a clause leaves a record where a statement of it does so, or where it has no statement
abbrev pub leaves_record : List StatementForm → Bool
leaves_record statements = length statements == 0 || list_any asks_for_record statements

-- statements that do nothing but record: each puts something into the record
abbrev pub only_records : List StatementForm → Bool
only_records statements = list_all is_recording statements

-- a statement that gives to an aggregation
abbrev pub is_giving : StatementForm → Bool
is_giving (program.aggregate name keys call) = true
is_giving _ = false

-- statements that do nothing but give to aggregations: there is one, and each gives
abbrev pub only_gives : List StatementForm → Bool
only_gives statements = not (length statements == 0) && list_all is_giving statements

-- What a clause that was taken leaves: its record, and the identifier to whose speculation it is directed, where it is; what its
-- aggregating statements give, in order; the speculations that it ends, in order; and the status of its first exit.
pub record TakenForm : Type 0 where
  pub record_bytes : Option (List ℕ)
  pub spec : Option ℕ
  pub values : List Value
  pub ends : List SpecEndForm
  pub exit : Option ℤ

abbrev pub taken_of : ℕ → List StatementForm → List Effect → TakenForm
taken_of epid statements effects = record {
  record_bytes = if leaves_record statements then Some (epid_bytes epid ++ flat_map recorded effects) else None;
  spec = first_some effect_spec effects;
  values = flat_map contributed effects;
  ends = flat_map ended_by effects;
  exit = first_some effect_exit effects;
}

-- a record and nothing else
abbrev pub bare_record : List ℕ → TakenForm
bare_record bytes = record { record_bytes = Some bytes; spec = None; values = []; ends = []; exit = None }

-- values for aggregations and nothing else
abbrev pub bare_values : List Value → TakenForm
bare_values values = record { record_bytes = None; spec = None; values = values; ends = []; exit = None }

-- a past, and then what effects assign and draw
abbrev pub past_with : TracingPast → List Effect → TracingPast
past_with past effects = past_then past (flat_map assigned_by effects) (flat_map drawn_by effects)

-- What statements do, one after another: each sees the variables and the identifiers in use as those before it left them. The list
-- ends before the first statement in which a division by zero is evaluated.
abbrev pub perform : SceneForm → TracingPast → List StatementForm → List Effect
perform scene past [] = []
perform scene past (statement ∷ later) =
    option_map_or (λ e. e ∷ perform scene (past_with past (e ∷ [])) later) (effect scene past statement) []

-- the predicate's value; where there is none, it holds
abbrev pub predicate_value : SceneForm → LocalsPast → Option Form → Option ℤ
predicate_value scene locals None = Some (pos 1)
predicate_value scene locals (Some f) = value scene locals f

-- What comes of a clause where it is taken: a division by zero abandons it, its predicate is 0 and it is passed over, or it
-- leaves something.
pub data Outcome : Type 0 where
  abandoned : Outcome
  passed_over : Outcome
  leaves : TakenForm → Outcome

-- A clause that was taken: what comes of it, and what its statements did, all of them or those before a division by zero.
pub record ClauseTaken : Type 0 where
  pub outcome : Outcome
  pub effects : List Effect

-- no statement of it did anything
abbrev pub not_performed : Outcome → ClauseTaken
not_performed outcome = record { outcome = outcome; effects = [] }

-- its statements did this: where it is less than all of them, a division by zero was evaluated
abbrev pub performed : ℕ → List StatementForm → List Effect → ClauseTaken
performed epid statements effects = record {
  outcome = if nat_lt (length effects) (length statements) then abandoned else leaves (taken_of epid statements effects);
  effects = effects;
}

-- A clause is abandoned where a division by zero is evaluated in its predicate or, if that holds, in one of its statements;
-- else it is passed over where the predicate is 0, and leaves what its statements do where it isn't.
abbrev pub taking : ℕ → SceneForm → TracingPast → ClauseForm → ClauseTaken
taking epid scene past clause = option_map_or
    (λ z. if holds z then performed epid clause.statements (perform scene past clause.statements)
    else not_performed passed_over) (predicate_value scene past.locals clause.predicate) (not_performed abandoned)

-- what was left, if something was
abbrev pub left_in : Outcome → Option TakenForm
left_in abandoned = None
left_in passed_over = None
left_in (leaves form) = Some form

-- whether a division by zero abandoned the clause
abbrev pub is_abandoned : Outcome → Bool
is_abandoned abandoned = true
is_abandoned passed_over = false
is_abandoned (leaves form) = false
