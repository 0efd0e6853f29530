-- What is taken where a probe fires, one ECB after another.
use Rattle.std.proofs.Common.{◌≡◌, ℕ, ◌+◌, ◌<◌, ◌==◌, Bool, true, false, cond, List, [], ◌∷◌, ◌++◌, length, filter, map, get_or, take}
use Rattle.std.proofs.Common.{None, refl, sym, ap, ◌∙◌}
use Rattle.std.specs.Option.{is_some}
use Rattle.dt_ecb.specs.Ecbs.{EcbForm}
use Rattle.dt_ecb.specs.Forms.{form_of_ecb}
use Rattle.dt_ecb.specs.declared.parts.Ecb.{Ecb}
use Rattle.dt_lang.specs.Program.{ClauseForm}
use Rattle.dt_machine.specs.Context.{ContextForm}
use Rattle.dt_life.specs.Options.{OptionsForm}
use Rattle.dt_life.specs.Takings.{Taking, exit_of, first_exit, through_exit}
use Rattle.dt_life.specs.TracingSteps.{TracingStep, takes, steps_and, taken_at, takings_of}
use Rattle.dt_life.specs.laws.Lists.{filter-map}
use Rattle.dt_life.specs.laws.Rows.{exit_found, of_row, row_more, row_through, taken_there}
use Rattle.dt_life.specs.laws.Takings.{first_through, through_none}
use Rattle.dt_life.specs.laws.TracingSteps.{steps_both}

module _ (options : OptionsForm) (in_end : Bool) (m : ContextForm) (cs : List ClauseForm) (steps : List TracingStep)
    (ecbs row : List Ecb) (is : row ≡ filter (λ (e : Ecb). e.probe == m.firing.probe) ecbs) where
  abbrev pub whole : List Taking
  whole = of_row options in_end m cs steps row

  -- what is taken of the ECBs of the probe
  taken_is : taken_at options steps in_end m (map (form_of_ecb cs) ecbs) ≡ cond in_end whole (through_exit whole)
  taken_is = ap (takings_of options steps in_end m)
      (filter-map (form_of_ecb cs) (λ (e : EcbForm). e.probe == m.firing.probe) ecbs ∙ ap (map (form_of_ecb cs)) (sym is))

  -- where none of them exits, or in END
  pub taken_all : (in_end ≡ false → first_exit (of_row options in_end m cs steps row) ≡ None)
      → taken_at options steps in_end m (map (form_of_ecb cs) ecbs) ≡ of_row options in_end m cs steps row
  taken_all stays = taken_is ∙ one in_end stays
    where
      one : (b : Bool) → (b ≡ false → first_exit (of_row options in_end m cs steps row) ≡ None)
          → cond b (of_row options in_end m cs steps row) (through_exit (of_row options in_end m cs steps row))
          ≡ of_row options in_end m cs steps row
      one true h = refl
      one false h = through_none (of_row options in_end m cs steps row) (h refl)

  -- an ordinary firing
  module _ (ordinary : in_end ≡ false) where
    through : taken_at options steps in_end m (map (form_of_ecb cs) ecbs) ≡ through_exit (of_row options in_end m cs steps row)
    through = taken_is ∙ ap (λ b. cond b whole (through_exit whole)) ordinary

    pub exit_is : first_exit (taken_at options steps in_end m (map (form_of_ecb cs) ecbs))
        ≡ first_exit (of_row options in_end m cs steps row)
    exit_is = ap first_exit through ∙ first_through whole

    module _ (i : ℕ) (ecb : Ecb) (inside : i < length row) (at : ecb ≡ get_or row i ecb)
        (stays : first_exit (of_row options in_end m cs steps (take i row)) ≡ None)
        (exits : is_some (exit_of (taken_there options in_end m cs steps row i ecb inside at)) ≡ true) where
      pub taken_through : taken_at options steps in_end m (map (form_of_ecb cs) ecbs)
          ≡ of_row options in_end m cs steps (take (i + 1) row)
      taken_through = through ∙ row_through options in_end m cs steps row i ecb inside at stays exits

      pub exit_there : exit_of (taken_there options in_end m cs steps row i ecb inside at)
          ≡ first_exit (taken_at options steps in_end m (map (form_of_ecb cs) ecbs))
      exit_there = exit_found options in_end m cs steps row i ecb inside at stays exits ∙ sym exit_is

-- the steps, one ECB later
module _ (options : OptionsForm) (in_end : Bool) (m : ContextForm) (cs : List ClauseForm) (steps : List TracingStep)
    (row : List Ecb) (i : ℕ) (ecb : Ecb) (inside : i < length row) (at : ecb ≡ get_or row i ecb) where
  pub steps_step : steps_and steps (of_row options in_end m cs steps (take i row))
      ++ takes (taken_there options in_end m cs steps row i ecb inside at) ∷ []
      ≡ steps_and steps (of_row options in_end m cs steps (take (i + 1) row))
  steps_step =
      steps_both steps (of_row options in_end m cs steps (take i row))
      (taken_there options in_end m cs steps row i ecb inside at ∷ [])
      ∙ ap (steps_and steps) (sym (row_more options in_end m cs steps row i ecb inside at))
