-- What a clause within the limits of a program leaves at most.
use Rattle.std.proofs.Common.{◌≡◌, ℕ, ◌*◌, ◌≤◌, Bool, true, false, List, [], ◌∷◌, ◌++◌, Option, Some, None, map}
use Rattle.std.proofs.Common.{length, sum, refl, sym, ap, subst, arith}
use Rattle.std.proofs.lemmas.List.{length-append}
use Rattle.std.specs.List.{flat_map, AllByRecursion}
use Rattle.std.specs.Option.{option_map, option_and_then}
use Rattle.std.specs.Prelude.{if◌then◌else◌}
use Rattle.dt_expr.specs.Scene.{SceneForm}
use Rattle.dt_expr.specs.Value.{value}
use Rattle.dt_expr.specs.declared.text.Value.{Value}
use Rattle.dt_program.specs.Clause.{ClauseForm, StatementForm}
use Rattle.dt_program.specs.Clause as program
use Rattle.dt_program.specs.Written.{IsWrittenClause, IsWrittenStatement}
use Rattle.dt_record.specs.Layout.{FieldForm, fields_of, field_size, layout_of, layout_size}
use Rattle.dt_record.specs.Limits.{record_max, values_max}
use Rattle.dt_record.specs.Pasts.{TracingPast}
use Rattle.dt_record.specs.Taking.{TakenForm, Effect, records, gives, exits, assigns, speculates, ends, committed, discarded}
use Rattle.dt_record.specs.Taking.{argument_value, assignment_in, contributed, draw_effect, each, effect, frames_bytes, given}
use Rattle.dt_record.specs.Taking.{identifier, leaves, leaves_record, past_with, perform, taking, value_bytes}
use Rattle.dt_record.specs.Within.{IsStatementWithinLimits, IsWithinLimits}
use Rattle.dt_record.specs.laws.Fitting.{sum_of}
use Rattle.dt_record.specs.laws.Performing.{ArePerformed, all_performed, does_with, first_performed, leaves_all}

-- the length of some fields
abbrev long : List FieldForm → ℕ
long fields = sum (map field_size fields)

-- a value takes as many bytes as all frames of a stack at most
fields_short : (statements : List StatementForm) → AllByRecursion IsStatementWithinLimits statements
    → long (fields_of statements) ≤ 64 * length statements
fields_short [] all = omega arith
fields_short (program.trace (program.number f) ∷ statements) all =
    omega (arith, fields_short statements all.1, sum_of 8 (map field_size (fields_of statements)))
fields_short (program.trace (program.text t) ∷ statements) all =
    omega (arith, fields_short statements all.1, sum_of 32 (map field_size (fields_of statements)))
fields_short (program.stack n ∷ statements) all =
    omega (arith, all.0, fields_short statements all.1, sum_of (8 * n) (map field_size (fields_of statements)))
fields_short (program.ustack n ∷ statements) all =
    omega (arith, all.0, fields_short statements all.1, sum_of (8 * n) (map field_size (fields_of statements)))
fields_short (program.exit f ∷ statements) all = omega (arith, fields_short statements all.1)
fields_short (program.aggregate name keys call ∷ statements) all = omega (arith, fields_short statements all.1)
fields_short (program.assign name f ∷ statements) all = omega (arith, fields_short statements all.1)
fields_short (program.draw name ∷ statements) all = omega (arith, fields_short statements all.1)
fields_short (program.speculate f ∷ statements) all = omega (arith, fields_short statements all.1)
fields_short (program.commit f ∷ statements) all = omega (arith, fields_short statements all.1)
fields_short (program.discard f ∷ statements) all = omega (arith, fields_short statements all.1)

either : (b : Bool) (fields : List FieldForm) → layout_size (Some fields) ≤ 516
    → layout_size (if b then Some fields else None) ≤ 516
either true fields few = few
either false fields few = omega arith

-- the record of a clause's layout
pub layout_short : (clause : ClauseForm) → IsWithinLimits clause → layout_size (layout_of clause) ≤ record_max
layout_short clause within =
    let fields = fields_short clause.statements within.each in
    let few = within.few in
    either (leaves_record clause.statements) (fields_of clause.statements) (omega (arith, fields, few))

-- what each of a list gives, taken apart
parts : {B : Type 0} (o : Option B) (os : Option (List B)) (all : List B)
    → option_and_then (λ y. option_map (λ ys. y ∷ ys) os) o ≡ Some all
    → (y : B) × (ys : List B) × (o ≡ Some y) × (os ≡ Some ys) × (all ≡ y ∷ ys)
parts None os all e = cc
parts (Some y) None all e = cc
parts (Some y) (Some ys) all e = (y, ys, refl, refl, cc)

-- as many values as arguments
each_long : {A B : Type 0} (f : A → Option B) (xs : List A) (ys : List B) → each f xs ≡ Some ys → length ys ≡ length xs
each_long f [] ys e = let none : [] ≡ ys = cc in ap length (sym none)
each_long f (x ∷ xs) ys e =
    let got = parts (f x) (each f xs) ys e in
    omega (arith, each_long f xs got.1 got.3, ap length got.4)

abbrev GivesNone : Effect → Type 0
GivesNone done = contributed done ≡ []

one_of_use : (keys : Option (List Value)) (number : Option Value) (done : Effect)
    → option_and_then (λ values. option_map (λ n. gives (values ++ n ∷ [])) number) keys ≡ Some done
    → (values : List Value) × (n : Value) × (keys ≡ Some values) × (contributed done ≡ values ++ n ∷ [])
one_of_use None number done e = cc
one_of_use (Some values) None done e = cc
one_of_use (Some values) (Some n) done e =
    let is : done ≡ gives (values ++ n ∷ []) = cc in
    (values, n, refl, ap contributed is)

module _ (scene : SceneForm) where
  none_few : (done : Effect) → GivesNone done → length (contributed done) ≤ 5
  none_few done none = omega (arith, ap length none)

  one_few : (past : TracingPast) (statement : StatementForm) (done : Effect) → IsStatementWithinLimits statement
      → effect scene past statement ≡ Some done → length (contributed done) ≤ 5
  one_few past (program.trace a) done within e =
      none_few done (does_with GivesNone (argument_value scene past.locals a) (λ v. records (value_bytes v)) done (λ v. refl) e)
  one_few past (program.stack n) done within e =
      none_few done (let got : records (frames_bytes n scene.firing.kstack) ≡ done = cc in subst GivesNone got refl)
  one_few past (program.ustack n) done within e =
      none_few done (let got : records (frames_bytes n scene.firing.ustack) ≡ done = cc in subst GivesNone got refl)
  one_few past (program.exit f) done within e =
      none_few done (does_with GivesNone (value scene past.locals f) exits done (λ z. refl) e)
  one_few past (program.aggregate name keys call) done within e =
      let got = one_of_use (each (argument_value scene past.locals) keys) (given scene past.locals call) done e in
      let many = each_long (argument_value scene past.locals) keys got.0 got.2 in
      omega (arith, within, many, ap length got.3, length-append got.0 (got.1 ∷ []))
  one_few past (program.assign name f) done within e =
      none_few done (does_with GivesNone (value scene past.locals f) (λ z. assigns (assignment_in scene name z)) done (λ z. refl) e)
  one_few past (program.draw name) done within e =
      none_few done (let got : draw_effect scene past name ≡ done = cc in subst GivesNone got refl)
  one_few past (program.speculate f) done within e =
      none_few done (does_with GivesNone (value scene past.locals f) (λ z. speculates (identifier z)) done (λ z. refl) e)
  one_few past (program.commit f) done within e =
      none_few done (does_with GivesNone (value scene past.locals f) (λ z. ends (committed (identifier z))) done (λ z. refl) e)
  one_few past (program.discard f) done within e =
      none_few done (does_with GivesNone (value scene past.locals f) (λ z. ends (discarded (identifier z))) done (λ z. refl) e)

  all_few : (past : TracingPast) (statements : List StatementForm) (effects : List Effect)
      → AllByRecursion IsStatementWithinLimits statements → ArePerformed scene past statements effects
      → length (flat_map contributed effects) ≤ 5 * length statements
  all_few past [] effects within all =
      let none : [] ≡ effects = all.are in
      omega (arith, ap (λ l. length (flat_map contributed l)) (sym none))
  all_few past (statement ∷ statements) effects within all =
      let got = first_performed scene past statement statements effects all in
      let one = one_few past statement got.first within.0 got.does in
      let more = all_few (past_with past (got.first ∷ [])) statements got.rest within.1 got.performed_later in
      let whole = ap (λ l. length (flat_map contributed l)) got.whole in
      omega (arith, one, more, whole, length-append (contributed got.first) (flat_map contributed got.rest))

-- what a clause gives to aggregations
pub values_few : (epid : ℕ) (scene : SceneForm) (past : TracingPast) (clause : ClauseForm) (left : TakenForm)
    → IsWithinLimits clause → (taking epid scene past clause).outcome ≡ leaves left → length left.values ≤ values_max
values_few epid scene past clause left within e =
    let all = all_few scene past clause.statements (perform scene past clause.statements) within.each
    (all_performed epid scene past clause left e) in
    let few = within.few in
    let these = ap (λ (l : TakenForm). length l.values) (leaves_all epid scene past clause left e).left_is in
    omega (arith, all, few, these)

statement_within : (statement : StatementForm) → IsWrittenStatement statement → IsStatementWithinLimits statement
statement_within (program.trace a) is = tt
statement_within (program.stack n) is = is.1
statement_within (program.ustack n) is = is.1
statement_within (program.exit f) is = tt
statement_within (program.aggregate name keys call) is = is.few
statement_within (program.assign name f) is = tt
statement_within (program.draw name) is = tt
statement_within (program.speculate f) is = tt
statement_within (program.commit f) is = tt
statement_within (program.discard f) is = tt

all_within : (statements : List StatementForm) → AllByRecursion IsWrittenStatement statements
    → AllByRecursion IsStatementWithinLimits statements
all_within [] all = tt
all_within (statement ∷ statements) all = (statement_within statement all.0, all_within statements all.1)

-- a clause that is written as a text
pub written_within : (clause : ClauseForm) → IsWrittenClause clause → IsWithinLimits clause
written_within clause is = record { few = is.few; each = all_within clause.statements is.stated }
