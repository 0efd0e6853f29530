-- Private to the proofs.
-- What contracts see of the places of a reader of programs.
use Rattle.std.specs.Prelude.{List, map}
use Rattle.dt_expr.specs.Form.{form_of}
use Rattle.dt_lang.specs.declared.place.Bound.{Bound}
use Rattle.dt_lang.specs.declared.place.Bound.TheVariants as bound
use Rattle.dt_lang.specs.declared.place.ReaderPlace.{ReaderPlace}
use Rattle.dt_lang.specs.declared.place.ReaderPlace.TheVariants as place
use Rattle.dt_lang.specs.declared.place.StatementPlace.{StatementPlace}
use Rattle.dt_lang.specs.declared.place.StatementPlace.TheVariants as inside
use Rattle.dt_lang.specs.declared.place.Slot.{Slot}
use Rattle.dt_lang.specs.declared.place.Slot.TheVariants as slot
use Rattle.dt_lang.specs.declared.place.Target.{Target}
use Rattle.dt_lang.specs.machine.ClauseState as state
use Rattle.dt_lang.specs.machine.ExpressionState as expression
use Rattle.dt_lang.specs.Grammar.{before_statement, after_statement}
use Rattle.dt_program.specs.Clause.{ArgForm, form_of_argument, form_of_statement}
use Rattle.dt_lang.specs.Stand as stand

abbrev pub key_forms : Target → List ArgForm
key_forms t = map form_of_argument t.keys.items

abbrev pub slot_form : Slot → stand.Slot
slot_form slot.Predicate = stand.predicate
slot_form (slot.Given a) = stand.given a
slot_form (slot.Key t) = stand.key t.name (key_forms t)
slot_form (slot.Value t fn) = stand.value t.name (key_forms t) fn
slot_form (slot.Assignment name) = stand.assignment name

abbrev pub bound_of : Bound → state.BoundForm
bound_of bound.Lower = state.at_lower
bound_of (bound.Upper lower) = state.at_upper lower
bound_of (bound.Step lower upper) = state.at_step lower upper

-- the place in a statement
abbrev pub inside_form : StatementPlace → state.InsideForm
inside_form (inside.Called a) = state.called a
inside_form (inside.StackOpened process) = state.stack_opened process
inside_form (inside.Closing s) = state.closing (form_of_statement s)
inside_form (inside.Named name) = state.named name
inside_form (inside.Keyed t) = state.keyed t.name (key_forms t)
inside_form (inside.Assigned t) = state.assigned t.name (key_forms t)
inside_form (inside.Applied t fn) = state.applied t.name (key_forms t) fn
inside_form (inside.Bounding l) = state.bounding l.target.name (key_forms l.target) (form_of l.value) (bound_of l.bound)
inside_form (inside.Negating l) = state.negating l.target.name (key_forms l.target) (form_of l.value) (bound_of l.bound)
inside_form (inside.Bounded l z) = state.bounded l.target.name (key_forms l.target) (form_of l.value) (bound_of l.bound) z
inside_form inside.ThreadLocal = state.self_read
inside_form inside.Arrow = state.arrow_read
inside_form (inside.Variable name) = state.variable name
inside_form (inside.Drawing name) = state.drawing name

-- the place, where expressions are read in this state
abbrev pub place_form : expression.State → ReaderPlace → state.PlaceForm
place_form e place.Outside = state.outside
place_form e place.Described = state.described
place_form e place.Listed = state.listed
place_form e place.Guarded = state.guarded
place_form e place.BeforeStatement = state.body before_statement
place_form e place.AfterStatement = state.body after_statement
place_form e (place.Inside p) = state.inside (inside_form p)
place_form e (place.Within s count) = state.within (slot_form s) count e
