-- The ECBs of a list are taken one after another.
use Rattle.std.proofs.Common.{◌≡◌, ℕ, ◌+◌, ◌<◌, ◌≤◌, Bool, true, false, List, [], ◌∷◌, ◌++◌, None, length, get_or, take, drop, map}
use Rattle.std.proofs.Common.{refl, sym, ap, ◌∙◌, subst}
use Rattle.std.specs.Option.{is_some}
use Rattle.std.proofs.lemmas.List.{drop_more, map-append, take-append-drop, take_all, take_more}
use Rattle.dt_cred.specs.declared.account.Account.{Account}
use Rattle.dt_machine.specs.Registry.{Registry}
use Rattle.dt_life.specs.Life.{SetUp}
use Rattle.dt_consumer.specs.Keeps.{AreAfter}
use Rattle.dt_consumer.specs.declared.processors.Processors.{Processors}
use Rattle.dt_buffer.specs.History.{of_end}
use Rattle.dt_ecb.specs.Forms.{form_of_ecb}
use Rattle.dt_ecb.specs.declared.parts.Ecb.{Ecb}
use Rattle.dt_lang.specs.Program.{ClauseForm}
use Rattle.dt_machine.specs.Context.{ContextForm}
use Rattle.dt_life.specs.Buffers.{comes_by_steps}
use Rattle.dt_life.specs.Following.{taking_by, takings_by}
use Rattle.dt_life.specs.Options.{OptionsForm}
use Rattle.dt_life.specs.Takings.{Taking, exit_of, first_exit, through_exit}
use Rattle.dt_life.specs.TracingSteps.{TracingStep, takes, steps_and, taken_in_turn}
use Rattle.dt_life.specs.laws.Buffers.{none_more_of_end}
use Rattle.dt_life.specs.laws.Takings.{first_here, first_through, none_more, through_first, through_none}
use Rattle.dt_life.specs.laws.TracingSteps.{in_turn-append, in_turn_first, in_turn_more, steps_both, steps_none}

module _ (in_end : Bool) (options : OptionsForm) (steps : List TracingStep) (m : ContextForm) (clauses : List ClauseForm) where
  -- what is taken of the first so many
  abbrev pub turn : List Ecb → List Taking
  turn row = taken_in_turn options steps in_end m (map (form_of_ecb clauses) row)

  row_more : (row : List Ecb) (i : ℕ) (x : Ecb) → i < length row → x ≡ get_or row i x
      → turn (take (i + 1) row)
      ≡ turn (take i row) ++ taking_by in_end options (steps_and steps (turn (take i row))) m clauses x ∷ []
  row_more row i x inside at =
      ap turn (take_more row i x inside ∙ ap (λ e. take i row ++ e ∷ []) (sym at))
      ∙ ap (taken_in_turn options steps in_end m) (map-append (form_of_ecb clauses) (take i row) (x ∷ []))
      ∙ in_turn_more options in_end m steps (map (form_of_ecb clauses) (take i row)) (form_of_ecb clauses x)

  -- the steps with one more
  pub steps_more : (row : List Ecb) (i : ℕ) (x : Ecb) → i < length row → x ≡ get_or row i x
      → steps_and steps (turn (take i row))
      ++ takes (taking_by in_end options (steps_and steps (turn (take i row))) m clauses x) ∷ []
      ≡ steps_and steps (turn (take (i + 1) row))
  steps_more row i x inside at =
      steps_both steps (turn (take i row))
      (taking_by in_end options (steps_and steps (turn (take i row))) m clauses x ∷ [])
      ∙ ap (steps_and steps) (sym (row_more row i x inside at))

  pub stays_more : (row : List Ecb) (i : ℕ) (x : Ecb) → i < length row → x ≡ get_or row i x → first_exit (turn (take i row)) ≡ None
      → is_some (exit_of (taking_by in_end options (steps_and steps (turn (take i row))) m clauses x)) ≡ false
      → first_exit (turn (take (i + 1) row)) ≡ None
  stays_more row i x inside at stays goes =
      ap first_exit (row_more row i x inside at) ∙ none_more (turn (take i row)) _ stays goes

-- What was taken so far, none of which exits.
pub record HasTurned (account : Account) (registry : Registry) (s : SetUp) (steps : List TracingStep) (m : ContextForm)
    (row : List Ecb) (processors : Processors) : Type 0 where
  pub after : AreAfter account registry s (steps_and steps (turn false s.options steps m s.clauses row)) processors
  pub open_still : (cpu : ℕ) → of_end (comes_by_steps cpu (steps_and steps (turn false s.options steps m s.clauses row))) ≡ []
  pub stays : first_exit (turn false s.options steps m s.clauses row) ≡ None

module _ (account : Account) (registry : Registry) (s : SetUp) (steps : List TracingStep) (m : ContextForm) where
  pub turned_none : (processors : Processors) → AreAfter account registry s steps processors
      → ((cpu : ℕ) → of_end (comes_by_steps cpu steps) ≡ []) → HasTurned account registry s steps m [] processors
  turned_none processors are none = record {
    after = subst (λ xs. AreAfter account registry s xs processors) (sym (steps_none steps)) are;
    open_still = λ cpu. ap (λ xs. of_end (comes_by_steps cpu xs)) (steps_none steps) ∙ none cpu;
    stays = refl;
  }

  module _ (row : List Ecb) (i : ℕ) (x : Ecb) (inside : i < length row) (at : x ≡ get_or row i x) where
    abbrev so_far : List TracingStep
    so_far = steps_and steps (turn false s.options steps m s.clauses (take i row))

    abbrev next : Taking
    next = taking_by false s.options so_far m s.clauses x

    pub turned_more : (old new : Processors) → HasTurned account registry s steps m (take i row) old
        → AreAfter account registry s (so_far ++ takes next ∷ []) new → is_some (exit_of next) ≡ false
        → HasTurned account registry s steps m (take (i + 1) row) new
    turned_more old new had are goes =
        let same = steps_more false s.options steps m s.clauses row i x inside at in
        record {
          after = subst (λ xs. AreAfter account registry s xs new) same are;
          open_still = λ cpu. ap (λ xs. of_end (comes_by_steps cpu xs)) (sym same)
              ∙ none_more_of_end cpu so_far next refl (had.open_still cpu);
          stays = stays_more false s.options steps m s.clauses row i x inside at had.stays goes;
        }

    -- where it exits, it is the last
    all_by : turn false s.options steps m s.clauses row
        ≡ turn false s.options steps m s.clauses (take i row) ++ next ∷ turn false s.options (so_far ++ takes next ∷ []) m s.clauses (drop (i + 1) row)
    all_by =
        ap (turn false s.options steps m s.clauses) (sym (take-append-drop i row)
        ∙ ap (λ rest. take i row ++ rest) (drop_more row i x inside ∙ ap (λ e. e ∷ drop (i + 1) row) (sym at)))
        ∙ ap (taken_in_turn s.options steps false m)
        (map-append (form_of_ecb s.clauses) (take i row) (x ∷ drop (i + 1) row))
        ∙ in_turn-append s.options false m steps (map (form_of_ecb s.clauses) (take i row))
        (map (form_of_ecb s.clauses) (x ∷ drop (i + 1) row))
        ∙ ap (λ rest. turn false s.options steps m s.clauses (take i row) ++ rest)
        (in_turn_first s.options false m so_far (form_of_ecb s.clauses x)
        (map (form_of_ecb s.clauses) (drop (i + 1) row)))

    pub turned_out : (new : Processors) → first_exit (turn false s.options steps m s.clauses (take i row)) ≡ None
        → is_some (exit_of next) ≡ true → AreAfter account registry s (so_far ++ takes next ∷ []) new
        → AreAfter account registry s (steps_and steps (takings_by false s.options steps m s.clauses row)) new
    turned_out new stays exits are =
        subst (λ xs. AreAfter account registry s xs new)
        (steps_both steps (turn false s.options steps m s.clauses (take i row)) (next ∷ [])
        ∙ ap (steps_and steps) (sym (ap through_exit all_by
        ∙ through_first (turn false s.options steps m s.clauses (take i row)) next _ stays exits)))
        are

    pub exits_so : first_exit (turn false s.options steps m s.clauses (take i row)) ≡ None
        → is_some (exit_of next) ≡ true
        → exit_of next ≡ first_exit (takings_by false s.options steps m s.clauses row)
    exits_so stays exits =
        sym (first_through (turn false s.options steps m s.clauses row) ∙ ap first_exit all_by
        ∙ first_here (turn false s.options steps m s.clauses (take i row)) next _ stays exits)

  -- none exits
  pub turned_all : (row : List Ecb) (i : ℕ) (new : Processors) → length row ≤ i
      → HasTurned account registry s steps m (take i row) new
      → AreAfter account registry s (steps_and steps (takings_by false s.options steps m s.clauses row)) new
  turned_all row i new beyond had =
      let whole = take_all i row beyond in
      let stays = subst (λ es. first_exit (turn false s.options steps m s.clauses es) ≡ None) whole had.stays in
      subst (λ xs. AreAfter account registry s xs new)
      (ap (λ es. steps_and steps (turn false s.options steps m s.clauses es)) whole
      ∙ ap (steps_and steps) (sym (through_none (turn false s.options steps m s.clauses row) stays)))
      had.after

  pub exits_none : (row : List Ecb) (i : ℕ) (new : Processors) → length row ≤ i
      → HasTurned account registry s steps m (take i row) new
      → None ≡ first_exit (takings_by false s.options steps m s.clauses row)
  exits_none row i new beyond had =
      sym (first_through (turn false s.options steps m s.clauses row)
      ∙ subst (λ es. first_exit (turn false s.options steps m s.clauses es) ≡ None) (take_all i row beyond) had.stays)
