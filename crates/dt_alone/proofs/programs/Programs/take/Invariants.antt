-- What was taken of the ECBs so far.
use Rattle.std.proofs.Common.{◌≡◌, ◌≤◌, ◌+◌, ◌*◌, ℕ, false, List, None, map, take}
use Rattle.dt_alone.specs.Happened.{Brings, left_count}
use Rattle.dt_alone.specs.Kept.{DropsAtMost, IsKeptAt}
use Rattle.dt_ecb.specs.Forms.{shapes_of}
use Rattle.dt_lang.specs.Program.{form_of_clause}
use Rattle.dt_machine.specs.Context.{form_of_context}
use Rattle.dt_program.specs.declared.clause.TheConstants.{STATEMENTS_MAX}
use Rattle.dt_life.specs.Options.{OptionsForm}
use Rattle.dt_life.specs.Takings.{first_exit}
use Rattle.dt_life.specs.TracingSteps.{TracingStep, steps_and}
use Rattle.dt_life.specs.laws.Rows.{of_row}
use Rattle.dt_alone.proofs.programs.Programs.take.Given as goal

abbrev pub invariant-loop-ecb : goal.invariant-loop-ecb
invariant-loop-ecb l = record {
  kept : (options : OptionsForm) (steps : List TracingStep) → IsKeptAt options steps l.fn.kept
      → Brings l.fn.kept.cpus (shapes_of l.self.shapes) options l.fn.happened.items steps
      → IsKeptAt options (steps_and steps (of_row options l.in_end (form_of_context l.context)
      (map form_of_clause l.self.clauses.items) steps (take l.ecb-index l.ecb-items))) l.kept
      × Brings l.fn.kept.cpus (shapes_of l.self.shapes) options l.happened.items
      (steps_and steps (of_row options l.in_end (form_of_context l.context)
      (map form_of_clause l.self.clauses.items) steps (take l.ecb-index l.ecb-items)));
  stays : l.in_end ≡ false → (options : OptionsForm) (steps : List TracingStep) → IsKeptAt options steps l.fn.kept
      → Brings l.fn.kept.cpus (shapes_of l.self.shapes) options l.fn.happened.items steps
      → first_exit (of_row options l.in_end (form_of_context l.context)
      (map form_of_clause l.self.clauses.items) steps (take l.ecb-index l.ecb-items)) ≡ None;
  few : left_count l.happened.items ≤ left_count l.fn.happened.items + l.ecb-index;
  counts : (n : ℕ) → DropsAtMost n l.fn.kept → DropsAtMost (n + l.ecb-index * STATEMENTS_MAX) l.kept;
  cpus : l.kept.cpus ≡ l.fn.kept.cpus;
}
