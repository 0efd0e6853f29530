-- What one step more adds to what is read off steps, and how the takings of ECBs go on.
use Rattle.std.proofs.Common.{◌≡◌, Bool, true, false, cond, List, [], ◌∷◌, ◌++◌, map, refl, sym, ap, subst, ◌∙◌, append_assoc}
use Rattle.std.specs.List.{AllByRecursion, flat_map, fold}
use Rattle.std.specs.Option.{is_some}
use Rattle.std.proofs.lemmas.List.{append-nil, map-append}
use Rattle.std.proofs.lemmas.Grind.{flat_map-append, fold-append}
use Rattle.dt_ecb.specs.Ecbs.{EcbForm}
use Rattle.dt_machine.specs.Context.{ContextForm}
use Rattle.dt_life.specs.Options.{OptionsForm}
use Rattle.dt_life.specs.Takings.{Taking, exit_of, taking_of, through_exit}
use Rattle.dt_life.specs.TracingSteps.{TracingStep, takes, past_of_steps, steps_and, taken_in_turn, takings_of}

-- what is read off one step more
pub one_more : {X : Type 0} (f : TracingStep → List X) (steps : List TracingStep) (step : TracingStep)
    → flat_map f (steps ++ step ∷ []) ≡ flat_map f steps ++ f step
one_more f steps step = flat_map-append f steps (step ∷ []) ∙ ap (λ xs. flat_map f steps ++ xs) (append-nil (f step))

pub steps_none : (steps : List TracingStep) → steps_and steps [] ≡ steps
steps_none steps = append-nil steps

pub steps_both : (steps : List TracingStep) (done new : List Taking)
    → steps_and (steps_and steps done) new ≡ steps_and steps (done ++ new)
steps_both steps done new =
    append_assoc steps (map takes done) (map takes new) ∙ ap (λ xs. steps ++ xs) (sym (map-append takes done new))

pub steps_first : (steps : List TracingStep) (t : Taking) (later : List Taking)
    → steps_and steps (t ∷ later) ≡ steps_and (steps ++ takes t ∷ []) later
steps_first [] t later = refl
steps_first (step ∷ steps) t later = ap (λ rest. step ∷ rest) (steps_first steps t later)

module _ (options : OptionsForm) (in_end : Bool) (context : ContextForm) where
  -- what is taken after steps by an ECB
  abbrev next : List TracingStep → EcbForm → Taking
  next steps ecb = taking_of in_end (past_of_steps options steps) context ecb

  abbrev after_these : List TracingStep → List Taking → EcbForm → List Taking
  after_these steps done ecb = done ++ next (steps_and steps done) ecb ∷ []

  -- the takings of one ECB more
  pub in_turn_more : (steps : List TracingStep) (ecbs : List EcbForm) (ecb : EcbForm)
      → taken_in_turn options steps in_end context (ecbs ++ ecb ∷ [])
      ≡ taken_in_turn options steps in_end context ecbs
      ++ taking_of in_end (past_of_steps options (steps_and steps (taken_in_turn options steps in_end context ecbs)))
      context ecb ∷ []
  in_turn_more steps ecbs ecb = fold-append (after_these steps) [] ecbs (ecb ∷ [])

  -- after some takings, those of further ECBs are the ones after the steps and these
  in_turn_from : (steps : List TracingStep) (done : List Taking) (ecbs : List EcbForm)
      → fold (after_these steps) done ecbs
      ≡ done ++ taken_in_turn options (steps_and steps done) in_end context ecbs
  in_turn_from steps done [] = sym (append-nil done)
  in_turn_from steps done (ecb ∷ ecbs) =
      let here = next (steps_and steps done) ecb in
      in_turn_from steps (done ++ here ∷ []) ecbs
      ∙ append_assoc done (here ∷ []) _
      ∙ ap (λ xs. done ++ here ∷ taken_in_turn options xs in_end context ecbs) (sym (steps_both steps done (here ∷ [])))
      ∙ ap (λ xs. done ++ xs) (sym (in_turn_from (steps_and steps done) (here ∷ []) ecbs))
      ∙ ap (λ xs. done ++ fold (after_these (steps_and steps done)) (next xs ecb ∷ []) ecbs)
      (sym (steps_none (steps_and steps done)))

  -- the first ECB's, and then those of the others
  pub in_turn_first : (steps : List TracingStep) (ecb : EcbForm) (ecbs : List EcbForm)
      → taken_in_turn options steps in_end context (ecb ∷ ecbs)
      ≡ taking_of in_end (past_of_steps options steps) context ecb
      ∷ taken_in_turn options
      (steps ++ takes (taking_of in_end (past_of_steps options steps) context ecb) ∷ []) in_end context ecbs
  in_turn_first steps ecb ecbs =
      ap (λ xs. fold (after_these steps) (next xs ecb ∷ []) ecbs) (steps_none steps)
      ∙ in_turn_from steps (next steps ecb ∷ []) ecbs

  -- those of the first ECBs, and then those of the others
  pub in_turn-append : (steps : List TracingStep) (xs ys : List EcbForm)
      → taken_in_turn options steps in_end context (xs ++ ys)
      ≡ taken_in_turn options steps in_end context xs
      ++ taken_in_turn options (steps_and steps (taken_in_turn options steps in_end context xs)) in_end context ys
  in_turn-append steps xs ys =
      fold-append (after_these steps) [] xs ys
      ∙ in_turn_from steps (taken_in_turn options steps in_end context xs) ys

  -- What holds of steps, and of them with one more taking of an ECB, holds of them with all that is taken.
  module _ (R : List TracingStep → Type 0) (Q : EcbForm → Type 0)
      (step : (steps : List TracingStep) (ecb : EcbForm) → R steps → Q ecb
      → R (steps ++ takes (taking_of in_end (past_of_steps options steps) context ecb) ∷ [])) where
    none_taken : (b : Bool) (steps : List TracingStep) → R steps → R (steps_and steps (cond b [] []))
    none_taken true steps h = subst R (sym (steps_none steps)) h
    none_taken false steps h = subst R (sym (steps_none steps)) h

    abbrev through : Bool → List Taking → List Taking
    through b takings = cond b takings (through_exit takings)

    -- a taking, and then the others, unless it exits
    with_first : (b exits : Bool) (steps : List TracingStep) (t : Taking) (later : List Taking) → is_some (exit_of t) ≡ exits
        → R (steps ++ takes t ∷ []) → R (steps_and (steps ++ takes t ∷ []) (through b later))
        → R (steps_and steps (through b (t ∷ later)))
    with_first true exits steps t later e one all = subst R (sym (steps_first steps t later)) all
    with_first false true steps t later e one all =
        subst (λ x. R (steps_and steps (t ∷ cond x [] (through_exit later)))) (sym e) one
    with_first false false steps t later e one all =
        subst (λ x. R (steps_and steps (t ∷ cond x [] (through_exit later)))) (sym e)
        (subst R (sym (steps_first steps t (through_exit later))) all)

    pub along : (ecbs : List EcbForm) → AllByRecursion Q ecbs → (steps : List TracingStep) → R steps
        → R (steps_and steps (takings_of options steps in_end context ecbs))
    along [] are steps h = none_taken in_end steps h
    along (ecb ∷ ecbs) are steps h =
        let t = next steps ecb in
        let one = step steps ecb h are.0 in
        subst (λ takings. R (steps_and steps (through in_end takings))) (sym (in_turn_first steps ecb ecbs))
        (with_first in_end (is_some (exit_of t)) steps t
        (taken_in_turn options (steps ++ takes t ∷ []) in_end context ecbs) refl one
        (along ecbs are.1 (steps ++ takes t ∷ []) one))
