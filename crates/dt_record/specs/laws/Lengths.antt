-- What a clause leaves is as long as its layout says, whatever numbers are in it.
use Rattle.std.proofs.Common.{◌≡◌, ℕ, ◌*◌, ◌≤◌, Bool, true, false, List, [], ◌∷◌, ◌++◌, Some, None, map, take}
use Rattle.std.proofs.Common.{length, sum, refl, sym, ap, subst, ◌∙◌, arith}
use Rattle.std.proofs.lemmas.List.{length-append, length-take-le}
use Rattle.std.specs.Prelude.{if◌then◌else◌}
use Rattle.std.specs.Int.{w64, cast_unsigned}
use Rattle.std.specs.List.{flat_map, AllByRecursion}
use Rattle.byteorder.specs.Endian.{big_bytes}
use Rattle.byteorder.specs.Numbers.{length-bytes_high_first}
use Rattle.dt_names.specs.Limits.{padded_size}
use Rattle.dt_expr.specs.Scene.{SceneForm, padded, text_bytes}
use Rattle.dt_expr.specs.Value.{value}
use Rattle.dt_expr.specs.declared.text.Text.{Text}
use Rattle.dt_expr.specs.declared.text.Text.TheVariants.{Literal, Variable}
use Rattle.dt_program.specs.Clause.{ClauseForm, StatementForm}
use Rattle.dt_program.specs.Clause as program
use Rattle.dt_record.specs.Layout.{FieldForm, fields_of, field_size, layout_of, layout_size}
use Rattle.dt_record.specs.Layout as layout
use Rattle.dt_record.specs.Showing.{HasLengths, IsTextInBounds, IsOfLength}
use Rattle.dt_record.specs.Pasts.{TracingPast}
use Rattle.dt_record.specs.Taking.{TakenForm, Effect, records, exits, assigns, speculates, ends, committed, discarded}
use Rattle.dt_record.specs.Taking.{argument_value, assignment_in, draw_effect, each, effect, epid_bytes, given, identifier}
use Rattle.dt_record.specs.Taking.{leaves, leaves_record, past_with, perform, recorded, taking}
use Rattle.dt_record.specs.laws.Fitting.{RecordsNone, sum_of, frames_long, padded_long, number_put}
use Rattle.dt_record.specs.laws.Performing.{ArePerformed, all_performed, does_with, first_performed, gives_with, leaves_all}

text_fits : (scene : SceneForm) → HasLengths scene → (t : Text) → IsTextInBounds t
    → length (text_bytes scene t) ≤ padded_size
text_fits scene is (Literal bytes) short = short
text_fits scene is (Variable variable) short = is.texts variable

first_long : (n : ℕ) (list : List ℕ) → length list ≡ 8 → n ≤ 8 → length (flat_map (big_bytes 8) (take n list)) ≡ 8 * n
first_long n list long few =
    frames_long (take n list) ∙ ap (λ m. 8 * m) (length-take-le n list (omega (arith, long)))

-- bytes of one more field
one_more : (field : FieldForm) (fields : List FieldForm) (front rest : List ℕ) → length front ≡ field_size field
    → length rest ≡ sum (map field_size fields) → length (front ++ rest) ≡ sum (map field_size (field ∷ fields))
one_more field fields front rest one more =
    let whole = length-append front rest in
    let total = sum_of (field_size field) (map field_size fields) in
    omega (arith, whole, total, one, more)

module _ (scene : SceneForm) (is : HasLengths scene) where
  -- how long the bytes of some statements' effects are
  abbrev IsLong : List StatementForm → List Effect → Type 0
  IsLong statements effects = length (flat_map recorded effects) ≡ sum (map field_size (fields_of statements))

  unrecorded : (statements : List StatementForm) (done : Effect) (effects : List Effect) → RecordsNone done
      → IsLong statements effects → length (flat_map recorded (done ∷ effects)) ≡ sum (map field_size (fields_of statements))
  unrecorded statements done effects none rest = ap (λ l. length (l ++ flat_map recorded effects)) none ∙ rest

  long : (past : TracingPast) (statement : StatementForm) (statements : List StatementForm) (done : Effect)
      (effects : List Effect) → IsOfLength statement → effect scene past statement ≡ Some done → IsLong statements effects
      → IsLong (statement ∷ statements) (done ∷ effects)
  long past (program.trace (program.number f)) statements done effects right e rest =
      let got = number_put (value scene past.locals f) done e in
      one_more layout.number (fields_of statements) (recorded done) (flat_map recorded effects)
      (ap (λ d. length (recorded d)) got.2 ∙ length-bytes_high_first 8 (cast_unsigned w64 got.0)) rest
  long past (program.trace (program.text t)) statements done effects right e rest =
      let got : done ≡ records (padded (text_bytes scene t)) = cc in
      one_more layout.text (fields_of statements) (recorded done) (flat_map recorded effects)
      (ap (λ d. length (recorded d)) got ∙ padded_long (text_bytes scene t) (text_fits scene is t right)) rest
  long past (program.stack n) statements done effects right e rest =
      let got : done ≡ records (flat_map (big_bytes 8) (take n scene.firing.kstack)) = cc in
      one_more (layout.stack n) (fields_of statements) (recorded done) (flat_map recorded effects)
      (ap (λ d. length (recorded d)) got ∙ first_long n scene.firing.kstack is.kstack right) rest
  long past (program.ustack n) statements done effects right e rest =
      let got : done ≡ records (flat_map (big_bytes 8) (take n scene.firing.ustack)) = cc in
      one_more (layout.ustack n) (fields_of statements) (recorded done) (flat_map recorded effects)
      (ap (λ d. length (recorded d)) got ∙ first_long n scene.firing.ustack is.ustack right) rest
  long past (program.exit f) statements done effects right e rest =
      unrecorded statements done effects (does_with RecordsNone (value scene past.locals f) exits done (λ z. refl) e) rest
  long past (program.aggregate name keys call) statements done effects right e rest =
      unrecorded statements done effects (gives_with RecordsNone (each (argument_value scene past.locals) keys)
      (given scene past.locals call) done (λ values. refl) e) rest
  long past (program.assign name f) statements done effects right e rest =
      unrecorded statements done effects (does_with RecordsNone (value scene past.locals f)
      (λ z. assigns (assignment_in scene name z)) done (λ z. refl) e) rest
  long past (program.draw name) statements done effects right e rest =
      unrecorded statements done effects (let got : draw_effect scene past name ≡ done = cc in subst RecordsNone got refl) rest
  long past (program.speculate f) statements done effects right e rest =
      unrecorded statements done effects (does_with RecordsNone (value scene past.locals f)
      (λ z. speculates (identifier z)) done (λ z. refl) e) rest
  long past (program.commit f) statements done effects right e rest =
      unrecorded statements done effects (does_with RecordsNone (value scene past.locals f)
      (λ z. ends (committed (identifier z))) done (λ z. refl) e) rest
  long past (program.discard f) statements done effects right e rest =
      unrecorded statements done effects (does_with RecordsNone (value scene past.locals f)
      (λ z. ends (discarded (identifier z))) done (λ z. refl) e) rest

  all_long : (past : TracingPast) (statements : List StatementForm) (effects : List Effect)
      → AllByRecursion IsOfLength statements → ArePerformed scene past statements effects → IsLong statements effects
  all_long past [] effects right all =
      let none : [] ≡ effects = all.are in
      ap (λ l. length (flat_map recorded l)) (sym none)
  all_long past (statement ∷ statements) effects right all =
      let got = first_performed scene past statement statements effects all in
      subst (IsLong (statement ∷ statements)) (sym got.whole)
      (long past statement statements got.first got.rest right.0 got.does
      (all_long (past_with past (got.first ∷ [])) statements got.rest right.1 got.performed_later))

either : (b : Bool) (fields : List FieldForm) (front bytes : List ℕ) → length front ≡ layout_size (Some fields)
    → (if b then Some front else None) ≡ Some bytes → length bytes ≡ layout_size (if b then Some fields else None)
either true fields front bytes is e = let same : front ≡ bytes = cc in ap length (sym same) ∙ is
either false fields front bytes is e = cc

-- the record that a clause leaves is as long as its layout says
pub left_long : (epid : ℕ) (scene : SceneForm) (past : TracingPast) (clause : ClauseForm) (left : TakenForm) (bytes : List ℕ)
    → HasLengths scene → AllByRecursion IsOfLength clause.statements
    → (taking epid scene past clause).outcome ≡ leaves left → left.record_bytes ≡ Some bytes
    → length bytes ≡ layout_size (layout_of clause)
left_long epid scene past clause left bytes is right e these =
    let effects = perform scene past clause.statements in
    let rest = all_long scene is past clause.statements effects right (all_performed epid scene past clause left e) in
    let four = length-bytes_high_first 4 epid in
    let front : length (epid_bytes epid ++ flat_map recorded effects) ≡ layout_size (Some (fields_of clause.statements)) =
    omega (arith, length-append (epid_bytes epid) (flat_map recorded effects), four, rest) in
    either (leaves_record clause.statements) (fields_of clause.statements)
    (epid_bytes epid ++ flat_map recorded effects) bytes front
    (sym (ap (λ (l : TakenForm). l.record_bytes) (leaves_all epid scene past clause left e).left_is) ∙ these)
