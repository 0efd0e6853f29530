-- ECBs whose clause is one trace of a variable, without a predicate. Guide, Program Structure (actions); Variables.
use Rattle.std.specs.Prelude.{List, [], ◌∷◌, Option, None}
use Rattle.std.specs.Option.{option_map}
use Rattle.dt_ecb.specs.Forms.{form_of_ecb}
use Rattle.dt_ecb.specs.declared.parts.Ecb.{Ecb}
use Rattle.dt_lang.specs.Program.{ClauseForm}
use Rattle.dt_record.specs.Traced.{traced_variable}
use Rattle.dt_consumer.specs.declared.traced_ecb.TracedEcb.{TracedEcb}

-- the EPID of an ECB and the variable that its clause traces, where the clause is one trace of a variable, without a predicate
abbrev pub traced_of : List ClauseForm → Ecb → Option TracedEcb
traced_of clauses ecb =
    option_map (λ variable. record { epid = ecb.epid; variable = variable }) (traced_variable (form_of_ecb clauses ecb).clause)

-- that of a probe's ECB, where the probe has one alone
abbrev pub traced_among : List ClauseForm → List Ecb → Option TracedEcb
traced_among clauses (ecb ∷ []) = traced_of clauses ecb
traced_among clauses _ = None
