-- Clauses that do nothing but give to aggregations: they leave no record, and nothing is assigned, drawn, ended or exited by them.
use Rattle.std.proofs.Common.{◌≡◌, ℕ, Bool, true, false, ◌||◌, ◌==◌, if◌then◌else◌, List, [], ◌∷◌, ◌++◌, Some, None, length, refl, ap, ◌∙◌}
use Rattle.std.specs.List.{flat_map, list_all, list_any}
use Rattle.std.specs.Option.{option_map}
use Rattle.std.specs.Prelude.{not}
use Rattle.dt_expr.specs.Operators.{holds}
use Rattle.dt_expr.specs.Scene.{SceneForm}
use Rattle.dt_program.specs.Clause.{ClauseForm, StatementForm}
use Rattle.dt_program.specs.Clause as program
use Rattle.dt_record.specs.Pasts.{TracingPast}
use Rattle.dt_record.specs.Taking.{Effect, records, gives, exits, assigns, draws, speculates, ends}
use Rattle.dt_record.specs.Taking.{argument_value, asks_for_record, assigned_by, contributed, drawn_by, each, effect, effect_exit, effect_spec, ended_by}
use Rattle.dt_record.specs.Taking.{epid_bytes, given, is_giving, leaves, leaves_record, only_gives, perform, predicate_value, bare_values, recorded, taken_of, taking}
use Rattle.dt_record.specs.laws.BareTakings.{IsBare, IsBareEffect, all_do, bare_does, bare_outcome, first_of, none_first, none_listed, second_of, wholly_taken}
use Rattle.dt_record.specs.laws.Performing.{gives_with}

-- an effect that gives to an aggregation
abbrev pub is_gift : Effect → Bool
is_gift (gives values) = true
is_gift _ = false

-- it does that alone
gift_is_bare : (e : Effect) → is_gift e ≡ true → IsBareEffect e
gift_is_bare (gives values) h = (refl, refl, refl, refl, refl)
gift_is_bare (records bytes) h = cc
gift_is_bare (exits status) h = cc
gift_is_bare (assigns assignment) h = cc
gift_is_bare (draws answer assignment) h = cc
gift_is_bare (speculates id) h = cc
gift_is_bare (ends end) h = cc

-- a statement that gives does that alone
pub does_give : (scene : SceneForm) (past : TracingPast) (statement : StatementForm) → is_giving statement ≡ true
    → (e : Effect) → effect scene past statement ≡ Some e → is_gift e ≡ true
does_give scene past (program.aggregate name keys call) h e is =
    gives_with (λ d. is_gift d ≡ true) (each (argument_value scene past.locals) keys) (given scene past.locals call) e
    (λ values. refl) is
does_give scene past (program.trace a) h e is = cc
does_give scene past (program.stack n) h e is = cc
does_give scene past (program.ustack n) h e is = cc
does_give scene past (program.exit f) h e is = cc
does_give scene past (program.assign name f) h e is = cc
does_give scene past (program.draw name) h e is = cc
does_give scene past (program.speculate f) h e is = cc
does_give scene past (program.commit f) h e is = cc
does_give scene past (program.discard f) h e is = cc

pub all_give : (statements : List StatementForm) → only_gives statements ≡ true → list_all is_giving statements ≡ true
all_give statements h = second_of (not (length statements == 0)) (list_all is_giving statements) h

none_asks : (statements : List StatementForm) → list_all is_giving statements ≡ true → list_any asks_for_record statements ≡ false
none_asks [] h = refl
none_asks (program.aggregate name keys call ∷ later) h = none_asks later h
none_asks (program.trace a ∷ later) h = cc
none_asks (program.stack n ∷ later) h = cc
none_asks (program.ustack n ∷ later) h = cc
none_asks (program.exit f ∷ later) h = cc
none_asks (program.assign name f ∷ later) h = cc
none_asks (program.draw name ∷ later) h = cc
none_asks (program.speculate f ∷ later) h = cc
none_asks (program.commit f ∷ later) h = cc
none_asks (program.discard f ∷ later) h = cc

-- a clause that does nothing but give leaves no record
values_leave : (statements : List StatementForm) → only_gives statements ≡ true → leaves_record statements ≡ false
values_leave statements h =
    ap (λ b. b || list_any asks_for_record statements)
    (is_none (length statements == 0) (first_of (not (length statements == 0)) (list_all is_giving statements) h))
    ∙ none_asks statements (all_give statements h)
  where
    is_none : (b : Bool) → not b ≡ true → b ≡ false
    is_none true e = cc
    is_none false e = refl

-- and nothing but its values
values_left : (epid : ℕ) (statements : List StatementForm) (effects : List Effect) → only_gives statements ≡ true
    → list_all is_gift effects ≡ true → taken_of epid statements effects ≡ bare_values (flat_map contributed effects)
values_left epid statements effects h are =
    let bytes = ap (λ b. if b then Some (epid_bytes epid ++ flat_map recorded effects) else None) (values_leave statements h) in
    let spec = none_first is_gift effect_spec (λ e k. (gift_is_bare e k).0) effects are in
    let end = none_listed is_gift ended_by (λ e k. (gift_is_bare e k).1) effects are in
    let exit = none_first is_gift effect_exit (λ e k. (gift_is_bare e k).2) effects are in
    λ i. record { record_bytes = bytes i; spec = spec i; values = flat_map contributed effects; ends = end i; exit = exit i }

module _ (epid : ℕ) (scene : SceneForm) (past : TracingPast) (clause : ClauseForm)
    (h : only_gives clause.statements ≡ true) where
  -- where its predicate holds and no division by zero is evaluated, it leaves its values
  pub values_taken : option_map holds (predicate_value scene past.locals clause.predicate) ≡ Some true
      → length (perform scene past clause.statements) ≡ length clause.statements
      → (taking epid scene past clause).outcome
      ≡ leaves (bare_values (flat_map contributed (perform scene past clause.statements)))
  values_taken held many =
      wholly_taken epid scene past clause held many
      ∙ ap leaves (values_left epid clause.statements (perform scene past clause.statements) h
      (all_do is_giving is_gift does_give scene clause.statements past (all_give clause.statements h)))

  pub values_outcome : IsBare (taking epid scene past clause).outcome
  values_outcome =
      bare_outcome is_giving is_gift does_give epid scene past clause (all_give clause.statements h) gift_is_bare

  -- nothing is assigned, and nothing drawn
  pub values_assign : flat_map assigned_by (taking epid scene past clause).effects ≡ []
  values_assign =
      bare_does is_giving is_gift does_give epid scene past clause (all_give clause.statements h) assigned_by
      (λ e k. (gift_is_bare e k).3)

  pub values_draw : flat_map drawn_by (taking epid scene past clause).effects ≡ []
  values_draw =
      bare_does is_giving is_gift does_give epid scene past clause (all_give clause.statements h) drawn_by
      (λ e k. (gift_is_bare e k).4)
