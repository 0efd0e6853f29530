-- Clauses that do nothing but record: nothing is assigned, drawn, given, ended or exited by them.
use Rattle.std.proofs.Common.{◌≡◌, ℕ, Bool, true, false, ◌||◌, ◌==◌, if◌then◌else◌, List, [], ◌∷◌, ◌++◌, Some, None, length, refl, ap, subst, ◌∙◌}
use Rattle.std.specs.List.{flat_map, list_all, list_any}
use Rattle.std.specs.Option.{option_map}
use Rattle.dt_expr.specs.Operators.{holds}
use Rattle.dt_expr.specs.Scene.{SceneForm}
use Rattle.dt_program.specs.Clause.{ClauseForm, StatementForm}
use Rattle.dt_program.specs.Clause as program
use Rattle.dt_record.specs.Pasts.{TracingPast}
use Rattle.dt_record.specs.Taking.{Effect, records, gives, exits, assigns, draws, speculates, ends}
use Rattle.dt_record.specs.Taking.{argument_value, asks_for_record, assigned_by, contributed, drawn_by, effect, effect_exit, effect_spec, ended_by}
use Rattle.dt_record.specs.Taking.{epid_bytes, frames_bytes, is_recording, is_speculating, leaves, leaves_record, only_records}
use Rattle.dt_record.specs.Taking.{perform, predicate_value, bare_record, recorded, taken_of, taking, value_bytes}
use Rattle.dt_record.specs.laws.BareTakings.{IsBare, IsBareEffect, all_do, bare_does, bare_outcome, first_of, none_first, none_listed, wholly_taken}
use Rattle.dt_record.specs.laws.Performing.{does_with}

either_first : (a b : Bool) → a ≡ true → (a || b) ≡ true
either_first true b h = refl
either_first false b h = cc

either_second : (a b : Bool) → b ≡ true → (a || b) ≡ true
either_second true b h = refl
either_second false b h = h

-- an effect that puts bytes into the record
abbrev pub is_record : Effect → Bool
is_record (records bytes) = true
is_record _ = false

-- it does that alone
pub record_is_bare : (e : Effect) → is_record e ≡ true → IsBareEffect e
record_is_bare (records bytes) h = (refl, refl, refl, refl, refl)
record_is_bare (gives values) h = cc
record_is_bare (exits status) h = cc
record_is_bare (assigns assignment) h = cc
record_is_bare (draws answer assignment) h = cc
record_is_bare (speculates id) h = cc
record_is_bare (ends end) h = cc

gives_nothing : (e : Effect) → is_record e ≡ true → contributed e ≡ []
gives_nothing (records bytes) h = refl
gives_nothing (gives values) h = cc
gives_nothing (exits status) h = cc
gives_nothing (assigns assignment) h = cc
gives_nothing (draws answer assignment) h = cc
gives_nothing (speculates id) h = cc
gives_nothing (ends end) h = cc

-- a statement that records does that alone
pub does_record : (scene : SceneForm) (past : TracingPast) (statement : StatementForm) → is_recording statement ≡ true
    → (e : Effect) → effect scene past statement ≡ Some e → is_record e ≡ true
does_record scene past (program.trace a) h e is =
    does_with (λ d. is_record d ≡ true) (argument_value scene past.locals a) (λ v. records (value_bytes v)) e (λ v. refl) is
does_record scene past (program.stack n) h e is =
    let same : records (frames_bytes n scene.firing.kstack) ≡ e = cc in subst (λ d. is_record d ≡ true) same refl
does_record scene past (program.ustack n) h e is =
    let same : records (frames_bytes n scene.firing.ustack) ≡ e = cc in subst (λ d. is_record d ≡ true) same refl
does_record scene past (program.exit f) h e is = cc
does_record scene past (program.aggregate name keys call) h e is = cc
does_record scene past (program.assign name f) h e is = cc
does_record scene past (program.draw name) h e is = cc
does_record scene past (program.speculate f) h e is = cc
does_record scene past (program.commit f) h e is = cc
does_record scene past (program.discard f) h e is = cc

-- a clause that does nothing but record leaves a record
pub record_leaves : (statements : List StatementForm) → only_records statements ≡ true → leaves_record statements ≡ true
record_leaves [] h = refl
record_leaves (statement ∷ later) h =
    either_second (length (statement ∷ later) == 0) (list_any asks_for_record (statement ∷ later))
    (either_first (asks_for_record statement) (list_any asks_for_record later)
    (either_first (is_recording statement) (is_speculating statement)
    (first_of (is_recording statement) (only_records later) h)))

-- and nothing else
record_left : (epid : ℕ) (statements : List StatementForm) (effects : List Effect) → only_records statements ≡ true
    → list_all is_record effects ≡ true
    → taken_of epid statements effects ≡ bare_record (epid_bytes epid ++ flat_map recorded effects)
record_left epid statements effects h are =
    let bytes = ap (λ b. if b then Some (epid_bytes epid ++ flat_map recorded effects) else None) (record_leaves statements h) in
    let spec = none_first is_record effect_spec (λ e k. (record_is_bare e k).0) effects are in
    let values = none_listed is_record contributed gives_nothing effects are in
    let end = none_listed is_record ended_by (λ e k. (record_is_bare e k).1) effects are in
    let exit = none_first is_record effect_exit (λ e k. (record_is_bare e k).2) effects are in
    λ i. record { record_bytes = bytes i; spec = spec i; values = values i; ends = end i; exit = exit i }

module _ (epid : ℕ) (scene : SceneForm) (past : TracingPast) (clause : ClauseForm)
    (h : only_records clause.statements ≡ true) where
  -- where its predicate holds and no division by zero is evaluated, it leaves its record
  pub record_taken : option_map holds (predicate_value scene past.locals clause.predicate) ≡ Some true
      → length (perform scene past clause.statements) ≡ length clause.statements
      → (taking epid scene past clause).outcome
      ≡ leaves (bare_record (epid_bytes epid ++ flat_map recorded (perform scene past clause.statements)))
  record_taken held many =
      wholly_taken epid scene past clause held many
      ∙ ap leaves (record_left epid clause.statements (perform scene past clause.statements) h
      (all_do is_recording is_record does_record scene clause.statements past h))

  pub record_outcome : IsBare (taking epid scene past clause).outcome
  record_outcome = bare_outcome is_recording is_record does_record epid scene past clause h record_is_bare

  -- nothing is assigned, and nothing drawn
  pub record_assigns : flat_map assigned_by (taking epid scene past clause).effects ≡ []
  record_assigns =
      bare_does is_recording is_record does_record epid scene past clause h assigned_by (λ e k. (record_is_bare e k).3)

  pub record_draws : flat_map drawn_by (taking epid scene past clause).effects ≡ []
  record_draws =
      bare_does is_recording is_record does_record epid scene past clause h drawn_by (λ e k. (record_is_bare e k).4)
