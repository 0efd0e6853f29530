-- What one taking brings to a processor's buffer, its errors and its store.
use Rattle.std.proofs.Common.{◌≡◌, ℕ, ◌+◌, true, false, List, [], ◌∷◌, ◌++◌, map, refl, ap, ◌∙◌}
use Rattle.std.specs.List.{flat_map}
use Rattle.std.proofs.lemmas.List.{append-nil}
use Rattle.dt_buffer.specs.History.{BufferPast, attempt, swap, of_end}
use Rattle.dt_buffer.specs.History as buffer
use Rattle.dt_buffer.specs.Shows.{EndLast}
use Rattle.dt_cred.specs.declared.account.Account.{Account}
use Rattle.dt_machine.specs.Registry.{Registry}
use Rattle.dt_life.specs.Buffers.{attempts_to, buffer_past_after, comes_by_steps, errors_after, records_to, reserve_on, followed_by}
use Rattle.dt_life.specs.Buffers.{comes_by}
use Rattle.dt_life.specs.Life.{SetUp, shapes_in}
use Rattle.dt_life.specs.Stores.{given_after, given_on}
use Rattle.dt_life.specs.Takings.{Taking, faults}
use Rattle.dt_life.specs.TracingSteps.{TracingStep, takes, taken_on}
use Rattle.dt_life.specs.Uses.{given_then}
use Rattle.dt_life.specs.laws.Takings.{faults-append}
use Rattle.dt_life.specs.laws.TracingSteps.{one_more}

module _ (account : Account) (registry : Registry) (s : SetUp) (steps : List TracingStep) (cpu : ℕ) where
  -- the past of a processor's buffer, one step longer
  pub buffer_more : (step : TracingStep) → buffer_past_after account registry s (steps ++ step ∷ []) cpu
      ≡ followed_by (buffer_past_after account registry s steps cpu) (comes_by cpu step)
  buffer_more step = ap (λ events. record {
    policy = s.options.bufpolicy;
    size = s.options.bufsize;
    reserve = reserve_on account registry s cpu;
    events = events;
  }) (one_more (comes_by cpu) steps step)

-- the errors of a processor, one step later
pub errors_more : (steps : List TracingStep) (cpu : ℕ) (step : TracingStep)
    → errors_after (steps ++ step ∷ []) cpu ≡ errors_after steps cpu + faults (taken_on cpu step)
errors_more steps cpu step =
    ap faults (one_more (taken_on cpu) steps step) ∙ faults-append (flat_map (taken_on cpu) steps) (taken_on cpu step)

-- the past of a processor's store, one step longer
pub given_more : (s : SetUp) (steps : List TracingStep) (cpu : ℕ) (step : TracingStep)
    → given_after s (steps ++ step ∷ []) cpu ≡ given_then (given_after s steps cpu) (given_on (shapes_in s) cpu step)
given_more s steps cpu step =
    ap (λ events. record { size = s.options.aggsize; events = events }) (one_more (given_on (shapes_in s) cpu) steps step)

-- the attempts of END's among those of others
pub of_end-append : (xs ys : List buffer.BufferEvent) → of_end (xs ++ ys) ≡ of_end xs ++ of_end ys
of_end-append [] ys = refl
of_end-append (attempt bytes true ∷ xs) ys = ap (λ rest. bytes ∷ rest) (of_end-append xs ys)
of_end-append (attempt bytes false ∷ xs) ys = of_end-append xs ys
of_end-append (swap ∷ xs) ys = of_end-append xs ys

ordinary_records : (records : List (List ℕ)) → of_end (map (λ bytes. attempt bytes false) records) ≡ []
ordinary_records [] = refl
ordinary_records (bytes ∷ records) = ordinary_records records

-- an ordinary taking attempts no record of END, on any processor
pub none_of_end : (cpu : ℕ) (t : Taking) → t.in_end ≡ false → of_end (attempts_to cpu t) ≡ []
none_of_end cpu t e =
    ap (λ b. of_end (map (λ bytes. attempt bytes b) (records_to cpu t))) e ∙ ordinary_records (records_to cpu t)

-- so nothing of END came by such takings
pub none_more_of_end : (cpu : ℕ) (steps : List TracingStep) (t : Taking) → t.in_end ≡ false
    → of_end (comes_by_steps cpu steps) ≡ [] → of_end (comes_by_steps cpu (steps ++ takes t ∷ [])) ≡ []
none_more_of_end cpu steps t e none =
    ap of_end (one_more (comes_by cpu) steps (takes t))
    ∙ of_end-append (comes_by_steps cpu steps) (attempts_to cpu t)
    ∙ ap (λ xs. xs ++ of_end (attempts_to cpu t)) none
    ∙ none_of_end cpu t e

pub still_last : (past : BufferPast) (events : List buffer.BufferEvent) → of_end events ≡ [] → EndLast past false
    → EndLast (followed_by past events) false
still_last past events none last = λ fill e.
    of_end-append past.events events ∙ ap (λ xs. of_end past.events ++ xs) none ∙ append-nil (of_end past.events)
    ∙ last fill e

-- nothing of END comes after what is of END
pub in_end_last : (past : BufferPast) → EndLast past true
in_end_last past = λ fill e. cc
