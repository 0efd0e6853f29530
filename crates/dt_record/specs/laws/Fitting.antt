-- What a clause leaves is a record of its layout.
use Rattle.std.proofs.Common.{◌≡◌, ℕ, zero, suc, ◌+◌, ◌-◌, ◌*◌, ◌≤◌, Bool, true, false, cond, List, [], ◌∷◌, ◌++◌}
use Rattle.std.proofs.Common.{Option, Some, None, ℤ, map, take, length, sum, replicate, refl, sym, ap, subst, ◌∙◌, arith}
use Rattle.std.proofs.lemmas.Int.{int_wrap_fits}
use Rattle.std.proofs.lemmas.List.{length-append, length-replicate, length-take-le}
use Rattle.std.proofs.lemmas.Option.{slice_get-map}
use Rattle.std.specs.Int.{w64, cast_unsigned}
use Rattle.std.specs.List.{fold, flat_map, filter, AllByRecursion}
use Rattle.std.specs.Option.{option_map, option_to_list}
use Rattle.std.specs.Prelude.{if◌then◌else◌, zip}
use Rattle.byteorder.specs.Endian.{big_bytes}
use Rattle.byteorder.specs.Numbers.{length-bytes_high_first}
use Rattle.dt_names.specs.Limits.{padded_size}
use Rattle.dt_expr.specs.Scene.{SceneForm, padded, text_bytes}
use Rattle.dt_expr.specs.Value.{value}
use Rattle.dt_expr.specs.declared.text.Text.{Text}
use Rattle.dt_expr.specs.declared.text.Text.TheVariants.{Literal, Variable}
use Rattle.dt_expr.specs.declared.text.Value.TheVariants as val
use Rattle.dt_program.specs.Clause.{ClauseForm, StatementForm}
use Rattle.dt_program.specs.Clause as program
use Rattle.dt_speculation.specs.Limits.{nspec_max}
use Rattle.dt_record.specs.Layout.{FieldForm, field_of, fields_of, field_size, layout_of, layout_size}
use Rattle.dt_record.specs.Layout as layout
use Rattle.dt_record.specs.Pasts.{TracingPast}
use Rattle.dt_record.specs.Split as split
use Rattle.dt_record.specs.Split.{RecordedForm, RecordForm, AreFrames, FitsField, FitAll, IsFrame, IsRecordOf, IsSplit}
use Rattle.dt_record.specs.Split.{recorded_bytes, record_bytes}
use Rattle.dt_record.specs.Showing.{AreLocalsInBounds, IsSceneInBounds, IsTextInBounds, IsStatementInBounds, CanBeTaken}
use Rattle.dt_record.specs.Showing.{ShowAll, IsRecordFrom, FitLayout, IsLeftBy, pasts_from}
use Rattle.dt_record.specs.Taking.{TakenForm, Effect, records, exits, assigns, speculates, ends, committed, discarded}
use Rattle.dt_record.specs.Taking.{assignment_in, draw_effect, each, effect, identifier, past_with, perform, recorded}
use Rattle.dt_record.specs.Taking.{epid_bytes, number_bytes, value_bytes, argument_value, given, leaves_record}
use Rattle.dt_record.specs.Taking.{is_recording, leaves, taking}
use Rattle.dt_record.specs.laws.Bounds.{bounds_after}
use Rattle.dt_record.specs.laws.Numbers.{value_fits}
use Rattle.dt_record.specs.laws.Performing.{ArePerformed, all_performed, does_with, first_performed, gives_with, leaves_all}

shift : (a : ℕ) (xs : List ℕ) → fold ◌+◌ a xs ≡ a + sum xs
shift a [] = omega arith
shift a (x ∷ xs) = let here = shift (a + x) xs in let there = shift (0 + x) xs in omega arith

pub sum_of : (x : ℕ) (xs : List ℕ) → sum (x ∷ xs) ≡ x + sum xs
sum_of x xs = let turned = shift (0 + x) xs in omega arith

pub frames_long : (list : List ℕ) → length (flat_map (big_bytes 8) list) ≡ 8 * length list
frames_long [] = omega arith
frames_long (frame ∷ list) =
    let front = length-append (big_bytes 8 frame) (flat_map (big_bytes 8) list) in
    let eight = length-bytes_high_first 8 frame in
    let more = frames_long list in
    omega (arith, front, eight, more)

-- a value that fits takes as many bytes as its field says
pub fits-long : (field : FieldForm) (value : RecordedForm) → FitsField field value
    → length (recorded_bytes value) ≡ field_size field
fits-long layout.number (split.number z) fit = length-bytes_high_first 8 (cast_unsigned w64 z)
fits-long layout.number (split.text bytes) fit = elim fit [ ]
fits-long layout.number (split.frames list) fit = elim fit [ ]
fits-long layout.text (split.number z) fit = elim fit [ ]
fits-long layout.text (split.text bytes) fit = fit
fits-long layout.text (split.frames list) fit = elim fit [ ]
fits-long (layout.stack n) (split.number z) fit = elim fit [ ]
fits-long (layout.stack n) (split.text bytes) fit = elim fit [ ]
fits-long (layout.stack n) (split.frames list) fit = frames_long list ∙ ap (λ m. 8 * m) fit.many
fits-long (layout.ustack n) (split.number z) fit = elim fit [ ]
fits-long (layout.ustack n) (split.text bytes) fit = elim fit [ ]
fits-long (layout.ustack n) (split.frames list) fit = frames_long list ∙ ap (λ m. 8 * m) fit.many

-- values that fit take as many bytes as their fields say
pub all-long : (fields : List FieldForm) (values : List RecordedForm) → FitAll fields values
    → length (flat_map recorded_bytes values) ≡ sum (map field_size fields)
all-long [] [] fit = refl
all-long [] (value ∷ values) fit = elim fit [ ]
all-long (field ∷ fields) [] fit = elim fit [ ]
all-long (field ∷ fields) (value ∷ values) fit =
    let front = length-append (recorded_bytes value) (flat_map recorded_bytes values) in
    let one = fits-long field value fit.0 in
    let more = all-long fields values fit.1 in
    let total = sum_of (field_size field) (map field_size fields) in
    omega (arith, front, one, more, total)

-- the bytes of a record whose values fit
record_long : (fields : List FieldForm) (r : RecordForm) → FitAll fields r.values
    → length (record_bytes r) ≡ layout_size (Some fields)
record_long fields r fit =
    let front = length-append (epid_bytes r.epid) (flat_map recorded_bytes r.values) in
    let four = length-bytes_high_first 4 r.epid in
    let rest = all-long fields r.values fit in
    omega (arith, front, four, rest)

-- what it does puts nothing into the record
abbrev pub RecordsNone : Effect → Type 0
RecordsNone done = recorded done ≡ []

-- what the effects of some statements put into a record
record Put (scene : SceneForm) (past : TracingPast) (statements : List StatementForm) (effects : List Effect) : Type 0 where
  values : List RecordedForm
  shown : ShowAll scene (filter (λ (one : TracingPast × StatementForm). is_recording one.1)
      (zip (pasts_from past effects) statements)) values
  fit : FitAll (fields_of statements) values
  same : flat_map recorded_bytes values ≡ flat_map recorded effects

pub number_put : (o : Option ℤ) (done : Effect)
    → option_map (λ v. records (value_bytes v)) (option_map val.Number o) ≡ Some done
    → (z : ℤ) × (o ≡ Some z) × (done ≡ records (number_bytes z))
number_put None done e = cc
number_put (Some z) done e = (z, refl, cc)

text_short : (scene : SceneForm) → IsSceneInBounds scene → (t : Text) → IsTextInBounds t → length (text_bytes scene t) ≤ padded_size
text_short scene is (Literal bytes) short = short
text_short scene is (Variable variable) short = is.texts variable

pub padded_long : (bytes : List ℕ) → length bytes ≤ 32 → length (padded bytes) ≡ 32
padded_long bytes short =
    let whole = length-append bytes (replicate (32 - length bytes) 0) in
    let zeros = length-replicate {A = ℕ} (32 - length bytes) 0 in
    omega (arith, whole, zeros)

first_frames : (n : ℕ) (list : List ℕ) → AllByRecursion IsFrame list → AllByRecursion IsFrame (take n list)
first_frames zero list all = tt
first_frames (suc n) [] all = tt
first_frames (suc n) (frame ∷ list) all = (all.0, first_frames n list all.1)

frames_put : (n : ℕ) (list : List ℕ) → AreFrames 8 list → n ≤ 8 → AreFrames n (take n list)
frames_put n list are few =
    let long = are.many in
    record { many = length-take-le n list (omega (arith, long)); each = first_frames n list are.each }

module _ (scene : SceneForm) (is : IsSceneInBounds scene) where
  -- the recording ones of statements that have these effects
  abbrev Recording : TracingPast → List StatementForm → List Effect → List (TracingPast × StatementForm)
  Recording past statements effects = filter (λ (one : TracingPast × StatementForm). is_recording one.1)
      (zip (pasts_from past effects) statements)

  -- a statement that records nothing
  unrecorded : (past : TracingPast) (statement : StatementForm) (statements : List StatementForm) (done : Effect)
      (effects : List Effect) → Put scene (past_with past (done ∷ [])) statements effects
      → is_recording statement ≡ false → field_of statement ≡ None → recorded done ≡ []
      → Put scene past (statement ∷ statements) (done ∷ effects)
  unrecorded past statement statements done effects rest unshown fieldless nothing =
      let others = Recording (past_with past (done ∷ [])) statements effects in
      record {
        values = rest.values;
        shown = subst (λ b. ShowAll scene (cond b ((past, statement) ∷ others) others) rest.values) (sym unshown) rest.shown;
        fit = subst (λ o. FitAll (option_to_list o ++ fields_of statements) rest.values) (sym fieldless) rest.fit;
        same = rest.same ∙ ap (λ l. l ++ flat_map recorded effects) (sym nothing);
      }

  put : (past : TracingPast) (statement : StatementForm) (statements : List StatementForm) (done : Effect) (effects : List Effect)
      → AreLocalsInBounds past.locals → IsStatementInBounds statement → effect scene past statement ≡ Some done
      → Put scene (past_with past (done ∷ [])) statements effects
      → Put scene past (statement ∷ statements) (done ∷ effects)
  put past (program.trace (program.number f)) statements done effects within right e rest =
      let got = number_put (value scene past.locals f) done e in
      record {
        values = split.number got.0 ∷ rest.values;
        shown = (got.1, rest.shown);
        fit = (int_wrap_fits w64 got.0 (value_fits scene is past.locals within f right got.0 got.1), rest.fit);
        same = ap (λ l. number_bytes got.0 ++ l) rest.same
            ∙ ap (λ d. recorded d ++ flat_map recorded effects) (sym got.2);
      }
  put past (program.trace (program.text t)) statements done effects within right e rest =
      let got : done ≡ records (padded (text_bytes scene t)) = cc in
      record {
        values = split.text (padded (text_bytes scene t)) ∷ rest.values;
        shown = (refl, rest.shown);
        fit = (padded_long (text_bytes scene t) (text_short scene is t right), rest.fit);
        same = ap (λ l. padded (text_bytes scene t) ++ l) rest.same
            ∙ ap (λ d. recorded d ++ flat_map recorded effects) (sym got);
      }
  put past (program.stack n) statements done effects within right e rest =
      let list = take n scene.firing.kstack in
      let got : done ≡ records (flat_map (big_bytes 8) list) = cc in
      record {
        values = split.frames list ∷ rest.values;
        shown = (refl, rest.shown);
        fit = (frames_put n scene.firing.kstack is.kstack right, rest.fit);
        same = ap (λ l. flat_map (big_bytes 8) list ++ l) rest.same
            ∙ ap (λ d. recorded d ++ flat_map recorded effects) (sym got);
      }
  put past (program.ustack n) statements done effects within right e rest =
      let list = take n scene.firing.ustack in
      let got : done ≡ records (flat_map (big_bytes 8) list) = cc in
      record {
        values = split.frames list ∷ rest.values;
        shown = (refl, rest.shown);
        fit = (frames_put n scene.firing.ustack is.ustack right, rest.fit);
        same = ap (λ l. flat_map (big_bytes 8) list ++ l) rest.same
            ∙ ap (λ d. recorded d ++ flat_map recorded effects) (sym got);
      }
  put past (program.exit f) statements done effects within right e rest =
      unrecorded past (program.exit f) statements done effects rest refl refl
      (does_with RecordsNone (value scene past.locals f) exits done (λ z. refl) e)
  put past (program.aggregate name keys call) statements done effects within right e rest =
      unrecorded past (program.aggregate name keys call) statements done effects rest refl refl
      (gives_with RecordsNone (each (argument_value scene past.locals) keys)
      (given scene past.locals call) done (λ values. refl) e)
  put past (program.assign name f) statements done effects within right e rest =
      unrecorded past (program.assign name f) statements done effects rest refl refl
      (does_with RecordsNone (value scene past.locals f) (λ z. assigns (assignment_in scene name z)) done (λ z. refl) e)
  put past (program.draw name) statements done effects within right e rest =
      unrecorded past (program.draw name) statements done effects rest refl refl
      (let got : done ≡ draw_effect scene past name = cc in ap recorded got)
  put past (program.speculate f) statements done effects within right e rest =
      unrecorded past (program.speculate f) statements done effects rest refl refl
      (does_with RecordsNone (value scene past.locals f) (λ z. speculates (identifier z)) done (λ z. refl) e)
  put past (program.commit f) statements done effects within right e rest =
      unrecorded past (program.commit f) statements done effects rest refl refl
      (does_with RecordsNone (value scene past.locals f) (λ z. ends (committed (identifier z))) done (λ z. refl) e)
  put past (program.discard f) statements done effects within right e rest =
      unrecorded past (program.discard f) statements done effects rest refl refl
      (does_with RecordsNone (value scene past.locals f) (λ z. ends (discarded (identifier z))) done (λ z. refl) e)

  put_all : (past : TracingPast) (statements : List StatementForm) (effects : List Effect) → AreLocalsInBounds past.locals
      → past.specs.nspec ≤ nspec_max → AllByRecursion IsStatementInBounds statements
      → ArePerformed scene past statements effects → Put scene past statements effects
  put_all past [] effects within few right all =
      let none : [] ≡ effects = all.are in
      subst (Put scene past []) none (record { values = []; shown = tt; fit = tt; same = refl })
  put_all past (statement ∷ statements) effects within few right all =
      let got = first_performed scene past statement statements effects all in
      subst (Put scene past (statement ∷ statements)) (sym got.whole)
      (put past statement statements got.first got.rest within right.0 got.does
      (put_all (past_with past (got.first ∷ [])) statements got.rest
      (bounds_after scene is past statement got.first within few right.0 got.does) few right.1 got.performed_later))

either : (b : Bool) (epid : ℕ) (scene : SceneForm) (past : TracingPast) (clause : ClauseForm) (fields : List FieldForm)
    (bytes : List ℕ) → IsRecordFrom epid scene past clause fields bytes
    → FitLayout epid scene past clause (if b then Some fields else None) (if b then Some bytes else None)
either true epid scene past clause fields bytes is = is
either false epid scene past clause fields bytes is = tt

-- what a clause leaves of a scene is a record of its layout, or neither is there
pub records-fit : (epid : ℕ) (scene : SceneForm) (past : TracingPast) (clause : ClauseForm) (left : TakenForm)
    → CanBeTaken scene past clause → (taking epid scene past clause).outcome ≡ leaves left
    → FitLayout epid scene past clause (layout_of clause) left.record_bytes
records-fit epid scene past clause left can e =
    let got = leaves_all epid scene past clause left e in
    let effects = perform scene past clause.statements in
    let all = put_all scene can.scene_in_bounds past clause.statements effects can.locals_in_bounds can.few_identifiers
    can.statements_in_bounds (all_performed epid scene past clause left e) in
    let written : RecordForm = record { epid = epid; values = all.values } in
    let same : record_bytes written ≡ epid_bytes epid ++ flat_map recorded effects =
    ap (λ l. epid_bytes epid ++ l) all.same in
    let one : IsRecordFrom epid scene past clause (fields_of clause.statements) (epid_bytes epid ++ flat_map recorded effects) =
    record {
      written = written;
      numbered = refl;
      shown = subst (λ es. ShowAll scene (filter (λ (one : TracingPast × StatementForm). is_recording one.1)
          (zip (pasts_from past es) clause.statements)) all.values) (sym got.effects_are) all.shown;
      fit = all.fit;
      same = same;
      long = ap length (sym same) ∙ record_long (fields_of clause.statements) written all.fit;
    } in
    subst (λ (l : TakenForm). FitLayout epid scene past clause (layout_of clause) l.record_bytes) (sym got.left_is)
    (either (leaves_record clause.statements) epid scene past clause (fields_of clause.statements)
    (epid_bytes epid ++ flat_map recorded effects) one)

-- bytes that a clause left are bytes of a layout that there is
of_some : (epid : ℕ) (scene : SceneForm) (past : TracingPast) (clause : ClauseForm) (o : Option (List FieldForm))
    (b : Option (List ℕ)) (bytes : List ℕ) → FitLayout epid scene past clause o b → b ≡ Some bytes
    → (fields : List FieldForm) × (o ≡ Some fields) × IsRecordFrom epid scene past clause fields bytes
of_some epid scene past clause None None bytes fit e = cc
of_some epid scene past clause None (Some all) bytes fit e = elim fit [ ]
of_some epid scene past clause (Some fields) None bytes fit e = elim fit [ ]
of_some epid scene past clause (Some fields) (Some all) bytes fit e =
    let same : all ≡ bytes = cc in
    (fields, refl, subst (IsRecordFrom epid scene past clause fields) same fit)

module _ (clauses : List ClauseForm) where
  one_left : (bytes : List ℕ) → IsLeftBy clauses bytes
      → (r : RecordForm) × IsRecordOf (map layout_of clauses) r × (record_bytes r ≡ bytes)
  one_left bytes is =
      let got = of_some (is.place + 1) is.scene is.past is.clause (layout_of is.clause) is.left.record_bytes bytes
      (records-fit (is.place + 1) is.scene is.past is.clause is.left is.can is.taken) is.these in
      let from = got.2 in
      let small = is.small in
      let numbered = from.numbered in (
        from.written,
        record {
          place = is.place;
          numbered = from.numbered;
          small = omega (arith, small, numbered);
          fields = got.0;
          named = slice_get-map layout_of clauses is.place ∙ ap (option_map layout_of) is.there ∙ ap Some got.1;
          fit = from.fit;
        },
        from.same,
      )

  -- records that clauses left, one after the other, are records of their layouts
  pub left-split : (pieces : List (List ℕ)) → AllByRecursion (IsLeftBy clauses) pieces
      → (found : List RecordForm) × IsSplit (map layout_of clauses) (flat_map (λ piece. piece) pieces) found
  left-split [] each = ([], record { each = tt; whole = refl })
  left-split (piece ∷ pieces) each =
      let first = one_left piece each.0 in
      let more = left-split pieces each.1 in (
        first.0 ∷ more.0,
        record {
          each = (first.1, more.1.each);
          whole = ap (λ l. record_bytes first.0 ++ l) more.1.whole
              ∙ ap (λ l. l ++ flat_map (λ piece. piece) pieces) first.2;
        },
      )
