-- What is taken by ECBs that are kept by the places of their clauses.
use Rattle.std.specs.Prelude.{Bool, List, map}
use Rattle.dt_lang.specs.Program.{ClauseForm}
use Rattle.dt_ecb.specs.Forms.{form_of_ecb}
use Rattle.dt_ecb.specs.declared.parts.Ecb.{Ecb}
use Rattle.dt_machine.specs.Context.{ContextForm}
use Rattle.dt_life.specs.Options.{OptionsForm}
use Rattle.dt_life.specs.Takings.{Taking, taking_of}
use Rattle.dt_life.specs.TracingSteps.{TracingStep, past_of_steps, takings_of}

-- what is taken in a context, after steps, by an ECB that is kept so
abbrev pub taking_by : Bool → OptionsForm → List TracingStep → ContextForm → List ClauseForm → Ecb → Taking
taking_by in_end options steps context clauses ecb =
    taking_of in_end (past_of_steps options steps) context (form_of_ecb clauses ecb)

-- the takings of ECBs that are kept so
abbrev pub takings_by : Bool → OptionsForm → List TracingStep → ContextForm → List ClauseForm → List Ecb → List Taking
takings_by in_end options steps context clauses ecbs =
    takings_of options steps in_end context (map (form_of_ecb clauses) ecbs)
