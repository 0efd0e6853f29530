-- Clauses that record one number, which a variable names: they do nothing but record, and leave the number after the EPID.
use Rattle.std.proofs.Common.{◌≡◌, ℕ, true, List, [], ◌∷◌, ◌++◌, Option, Some, None, refl, ap, ◌∙◌}
use Rattle.std.proofs.lemmas.List.{append-nil}
use Rattle.std.specs.Option.{option_map_or}
use Rattle.dt_expr.specs.Form.{Form, Num, Named, Local, Prefixed, Joined, Compared}
use Rattle.dt_expr.specs.Scene.{SceneForm, number_named}
use Rattle.dt_expr.specs.declared.scene.NumberVariable.{NumberVariable}
use Rattle.dt_program.specs.Clause.{ClauseForm, StatementForm}
use Rattle.dt_program.specs.Clause as program
use Rattle.dt_program.specs.Description.{DescForm}
use Rattle.dt_record.specs.Pasts.{TracingPast}
use Rattle.dt_record.specs.Taking.{bare_record, epid_bytes, leaves, number_bytes, only_records, taking}
use Rattle.dt_record.specs.Traced.{traced_variable, variable_alone}

abbrev clause_of : List DescForm → Option Form → List StatementForm → ClauseForm
clause_of descriptions predicate statements =
    record { descriptions = descriptions; predicate = predicate; statements = statements }

only : (statements : List StatementForm) (variable : NumberVariable) → variable_alone statements ≡ Some variable
    → only_records statements ≡ true
only [] variable h = cc
only (program.trace a ∷ []) variable h = refl
only (program.stack n ∷ []) variable h = cc
only (program.ustack n ∷ []) variable h = cc
only (program.exit f ∷ []) variable h = cc
only (program.aggregate name keys call ∷ []) variable h = cc
only (program.assign name f ∷ []) variable h = cc
only (program.draw name ∷ []) variable h = cc
only (program.speculate f ∷ []) variable h = cc
only (program.commit f ∷ []) variable h = cc
only (program.discard f ∷ []) variable h = cc
only (statement ∷ next ∷ later) variable h = cc

-- such a clause does nothing but record
pub traced_records : (clause : ClauseForm) (variable : NumberVariable) → traced_variable clause ≡ Some variable
    → only_records clause.statements ≡ true
traced_records clause variable h = by_predicate clause.predicate h
  where
    by_predicate : (predicate : Option Form)
        → option_map_or (λ f. None) predicate (variable_alone clause.statements) ≡ Some variable
        → only_records clause.statements ≡ true
    by_predicate None k = only clause.statements variable k
    by_predicate (Some f) k = cc

module _ (epid : ℕ) (scene : SceneForm) (past : TracingPast) (descriptions : List DescForm) where
  -- what is left by statements that have no predicate
  leaves_number : (statements : List StatementForm) (variable : NumberVariable) → variable_alone statements ≡ Some variable
      → (taking epid scene past (clause_of descriptions None statements)).outcome
      ≡ leaves (bare_record (epid_bytes epid ++ number_bytes (number_named scene variable)))
  leaves_number [] variable h = cc
  leaves_number (program.trace (program.number (Named v)) ∷ []) variable h =
      let same : v ≡ variable = cc in
      ap (λ bytes. leaves (bare_record (epid_bytes epid ++ bytes))) (append-nil (number_bytes (number_named scene v)))
      ∙ ap (λ w. leaves (bare_record (epid_bytes epid ++ number_bytes (number_named scene w)))) same
  leaves_number (program.trace (program.number (Num n)) ∷ []) variable h = cc
  leaves_number (program.trace (program.number (Local name)) ∷ []) variable h = cc
  leaves_number (program.trace (program.number (Prefixed op f)) ∷ []) variable h = cc
  leaves_number (program.trace (program.number (Joined op f g)) ∷ []) variable h = cc
  leaves_number (program.trace (program.number (Compared op s t)) ∷ []) variable h = cc
  leaves_number (program.trace (program.text t) ∷ []) variable h = cc
  leaves_number (program.stack n ∷ []) variable h = cc
  leaves_number (program.ustack n ∷ []) variable h = cc
  leaves_number (program.exit f ∷ []) variable h = cc
  leaves_number (program.aggregate name keys call ∷ []) variable h = cc
  leaves_number (program.assign name f ∷ []) variable h = cc
  leaves_number (program.draw name ∷ []) variable h = cc
  leaves_number (program.speculate f ∷ []) variable h = cc
  leaves_number (program.commit f ∷ []) variable h = cc
  leaves_number (program.discard f ∷ []) variable h = cc
  leaves_number (statement ∷ next ∷ later) variable h = cc

-- it leaves its EPID and then the number, whatever was assigned and drawn before
pub traced_leaves : (epid : ℕ) (scene : SceneForm) (past : TracingPast) (clause : ClauseForm) (variable : NumberVariable)
    → traced_variable clause ≡ Some variable
    → (taking epid scene past clause).outcome ≡ leaves (bare_record (epid_bytes epid ++ number_bytes (number_named scene variable)))
traced_leaves epid scene past clause variable h = by_predicate clause.predicate h
  where
    by_predicate : (predicate : Option Form)
        → option_map_or (λ f. None) predicate (variable_alone clause.statements) ≡ Some variable
        → (taking epid scene past (clause_of clause.descriptions predicate clause.statements)).outcome
        ≡ leaves (bare_record (epid_bytes epid ++ number_bytes (number_named scene variable)))
    by_predicate None k = leaves_number epid scene past clause.descriptions clause.statements variable k
    by_predicate (Some f) k = cc
