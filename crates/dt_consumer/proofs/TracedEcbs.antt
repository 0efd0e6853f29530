-- ECBs whose clause is one trace of a variable, without a predicate.
use Rattle.std.proofs.Common.{◌≡◌, List, [], ◌∷◌, Option, Some, None, refl, ap, ◌∙◌}
use Rattle.std.specs.Option.{option_map}
use Rattle.dt_ecb.specs.Forms.{form_of_ecb}
use Rattle.dt_ecb.specs.declared.parts.Ecb.{Ecb}
use Rattle.dt_expr.specs.declared.scene.NumberVariable.{NumberVariable}
use Rattle.dt_lang.specs.Program.{ClauseForm}
use Rattle.dt_record.specs.Traced.{traced_variable}
use Rattle.dt_consumer.specs.TracedEcbs.{traced_among, traced_of}
use Rattle.dt_consumer.specs.declared.traced_ecb.TracedEcb.{TracedEcb}

-- what is kept of an ECB is its EPID and the variable that its clause traces
pub record IsTraced (clauses : List ClauseForm) (ecb : Ecb) (traced : TracedEcb) : Type 0 where
  pub epid : ecb.epid ≡ traced.epid
  pub variable : traced_variable (form_of_ecb clauses ecb).clause ≡ Some traced.variable

pub is_traced : (clauses : List ClauseForm) (ecb : Ecb) (traced : TracedEcb) → traced_of clauses ecb ≡ Some traced
    → IsTraced clauses ecb traced
is_traced clauses ecb traced h = by_variable (traced_variable (form_of_ecb clauses ecb).clause) refl h
  where
    by_variable : (found : Option NumberVariable) → traced_variable (form_of_ecb clauses ecb).clause ≡ found
        → option_map (λ variable. record { epid = ecb.epid; variable = variable }) found ≡ Some traced
        → IsTraced clauses ecb traced
    by_variable None is k = cc
    by_variable (Some variable) is k = record { epid = cc; variable = is ∙ (let same : variable ≡ traced.variable = cc in ap Some same) }

-- where it is known of a probe's ECBs, there is one
pub record OneTraced (clauses : List ClauseForm) (ecbs : List Ecb) (traced : TracedEcb) : Type 0 where
  pub ecb : Ecb
  pub only : ecbs ≡ ecb ∷ []
  pub is : traced_of clauses ecb ≡ Some traced

pub one_traced : (clauses : List ClauseForm) (ecbs : List Ecb) (traced : TracedEcb) → traced_among clauses ecbs ≡ Some traced
    → OneTraced clauses ecbs traced
one_traced clauses [] traced h = cc
one_traced clauses (ecb ∷ []) traced h = record { ecb = ecb; only = refl; is = h }
one_traced clauses (ecb ∷ next ∷ later) traced h = cc
