-- How the takings of a row of ECBs that are kept by the places of their clauses go on, from one ECB to the next.
use Rattle.std.proofs.Common.{◌≡◌, ℕ, zero, suc, ◌+◌, ◌<◌, get_or, take, drop, true, false, List, [], ◌∷◌, ◌++◌, length}
use Rattle.std.proofs.Common.{None, map, sym, ap, ◌∙◌, arith, Bool}
use Rattle.std.specs.Option.{is_some}
use Rattle.std.proofs.lemmas.List.{map-append, take_more}
use Rattle.dt_ecb.specs.Ecbs.{EcbForm}
use Rattle.dt_ecb.specs.Forms.{form_of_ecb}
use Rattle.dt_ecb.specs.declared.parts.Ecb.{Ecb}
use Rattle.dt_lang.specs.Program.{ClauseForm}
use Rattle.dt_machine.specs.Context.{ContextForm}
use Rattle.dt_life.specs.Following.{taking_by}
use Rattle.dt_life.specs.Options.{OptionsForm}
use Rattle.dt_life.specs.Takings.{Taking, exit_of, first_exit, through_exit}
use Rattle.dt_life.specs.TracingSteps.{TracingStep, takes, steps_and, taken_in_turn}
use Rattle.dt_life.specs.laws.Takings.{first_here, none_more, through_first}
use Rattle.dt_life.specs.laws.TracingSteps.{in_turn-append, in_turn_first, in_turn_more}

-- a row, cut at an ECB
row_cut : (f : Ecb → EcbForm) (row : List Ecb) (i : ℕ) (ecb : Ecb) → i < length row → ecb ≡ get_or row i ecb
    → map f row ≡ map f (take i row) ++ f ecb ∷ map f (drop (suc i) row)
row_cut f [] i ecb inside is = absurd (omega arith)
row_cut f (first ∷ row) zero ecb inside is = ap (λ e. f e ∷ map f row) (sym is)
row_cut f (first ∷ row) (suc i) ecb inside is = ap (λ rest. f first ∷ rest) (row_cut f row i ecb (omega arith) is)

module _ (options : OptionsForm) (in_end : Bool) (context : ContextForm) (clauses : List ClauseForm) (steps : List TracingStep)
  where
    -- the takings of all ECBs of a row
    abbrev pub of_row : List Ecb → List Taking
    of_row row = taken_in_turn options steps in_end context (map (form_of_ecb clauses) row)

    module _ (row : List Ecb) (i : ℕ) (ecb : Ecb) (inside : i < length row) (is : ecb ≡ get_or row i ecb) where
      -- what is taken by the ECB at the place, after those before it
      abbrev pub taken_there : Taking
      taken_there = taking_by in_end options (steps_and steps (of_row (take i row))) context clauses ecb

      -- the takings of one ECB more
      pub row_more : of_row (take (i + 1) row) ≡ of_row (take i row) ++ taken_there ∷ []
      row_more =
          ap (λ xs. taken_in_turn options steps in_end context (map (form_of_ecb clauses) xs)) (take_more row i ecb inside)
          ∙ ap (λ e. taken_in_turn options steps in_end context (map (form_of_ecb clauses) (take i row ++ e ∷ []))) (sym is)
          ∙ ap (taken_in_turn options steps in_end context) (map-append (form_of_ecb clauses) (take i row) (ecb ∷ []))
          ∙ in_turn_more options in_end context steps (map (form_of_ecb clauses) (take i row)) (form_of_ecb clauses ecb)

      abbrev later : List Taking
      later = taken_in_turn options (steps_and steps (of_row (take i row)) ++ takes taken_there ∷ []) in_end context
          (map (form_of_ecb clauses) (drop (suc i) row))

      row_split : of_row row ≡ of_row (take i row) ++ taken_there ∷ later
      row_split =
          ap (taken_in_turn options steps in_end context) (row_cut (form_of_ecb clauses) row i ecb inside is)
          ∙ in_turn-append options in_end context steps (map (form_of_ecb clauses) (take i row))
          (form_of_ecb clauses ecb ∷ map (form_of_ecb clauses) (drop (suc i) row))
          ∙ ap (λ xs. of_row (take i row) ++ xs)
          (in_turn_first options in_end context (steps_and steps (of_row (take i row))) (form_of_ecb clauses ecb)
          (map (form_of_ecb clauses) (drop (suc i) row)))

      module _ (stays : first_exit (of_row (take i row)) ≡ None) where
        -- where it is the first that exits, it is the last that is taken
        pub row_through : is_some (exit_of taken_there) ≡ true → through_exit (of_row row) ≡ of_row (take (i + 1) row)
        row_through exits =
            ap through_exit row_split ∙ through_first (of_row (take i row)) taken_there later stays exits ∙ sym row_more

        pub exit_found : is_some (exit_of taken_there) ≡ true → exit_of taken_there ≡ first_exit (of_row row)
        exit_found exits = sym (ap first_exit row_split ∙ first_here (of_row (take i row)) taken_there later stays exits)

        pub stays_more : is_some (exit_of taken_there) ≡ false → first_exit (of_row (take (i + 1) row)) ≡ None
        stays_more on = ap first_exit row_more ∙ none_more (of_row (take i row)) taken_there stays on
