-- What was taken, after a step at which no ECB is taken: a reading or a truncation.
use Rattle.std.proofs.Common.{◌≡◌, ◌≢◌, ℕ, ◌<◌, ◌≤◌, ◌==◌, ◌&&◌, Bool, true, false, cond, not, List, [], ◌∷◌, ◌++◌, length, get_or, map}
use Rattle.std.proofs.Common.{refl, sym, ap, ◌∙◌, subst, ⊎_elim, arith}
use Rattle.std.specs.Prelude.{zip, count_by}
use Rattle.std.specs.List.{flat_map, slice_get, slice_set}
use Rattle.std.proofs.lemmas.Bool.{cases_eq, eq-eqb, ne_eqb}
use Rattle.std.proofs.lemmas.List.{append-nil}
use Rattle.dt_buffer.specs.History.{BufferPast, buffer_after, of_end, swap}
use Rattle.dt_buffer.specs.History as buffer
use Rattle.dt_buffer.specs.IsAt.{BufferIsAt}
use Rattle.dt_cred.specs.declared.account.Account.{Account}
use Rattle.dt_locals.specs.Chosen.{locals_choice}
use Rattle.dt_locals.specs.History.{Assignment}
use Rattle.dt_locals.specs.LocalsAreAt.{LocalsAreAt}
use Rattle.dt_locals.specs.declared.locals.Locals.{Locals}
use Rattle.dt_machine.specs.Registry.{Registry}
use Rattle.dt_record.specs.Pasts.{TracingPast}
use Rattle.dt_speculation.specs.IsAt.{SpecsAt}
use Rattle.dt_speculation.specs.Parts.{spec_drops}
use Rattle.dt_speculation.specs.declared.speculations.Specs.{Specs}
use Rattle.dt_life.specs.Buffers.{buffer_past_after, comes_by, comes_by_steps, errors_after, followed_by}
use Rattle.dt_life.specs.Life.{SetUp}
use Rattle.dt_life.specs.TracingSteps.{TracingStep, reads, truncates, assigned_in, speculated_in, taken_on, dynamic_drops, locals_of, specs_of}
use Rattle.dt_life.specs.laws.Buffers.{buffer_more, errors_more, of_end-append}
use Rattle.dt_life.specs.laws.Lists.{nothing_past}
use Rattle.dt_life.specs.laws.Options.{if_some_map}
use Rattle.dt_life.specs.laws.Pasts.{past_same}
use Rattle.dt_life.specs.laws.TracingSteps.{one_more}
use Rattle.dt_life.specs.Takings.{faults}
use Rattle.dt_consumer.specs.Keeps.{tally_after}
use Rattle.dt_consumer.specs.Tallies.{AreTallied, CountsTheSame, IsTallied, Tally}
use Rattle.dt_consumer.specs.declared.processor.Processor.{Processor}
use Rattle.dt_consumer.proofs.Tallying.{retally, tallied_set}

-- a step at which nothing is assigned, drawn or taken
pub record IsIdle (step : TracingStep) : Type 0 where
  pub unassigned : assigned_in step ≡ []
  pub unspeculated : speculated_in step ≡ []
  pub untaken : (cpu : ℕ) → taken_on cpu step ≡ []

module _ (account : Account) (registry : Registry) (s : SetUp) (steps : List TracingStep) (step : TracingStep)
    (idle : IsIdle step) where
  same_drops : (cpu : ℕ) → dynamic_drops s.options (steps ++ step ∷ []) cpu ≡ dynamic_drops s.options steps cpu
  same_drops cpu = ap (λ (placed : List (ℕ × Assignment)).
      count_by (λ (one : (ℕ × Assignment) × Bool). one.0.0 == cpu && not one.1)
      (zip placed (locals_choice (record {
        dynvarsize = s.options.dynvarsize;
        assignments = map (λ (one : ℕ × Assignment). one.1) placed;
      }))))
      (one_more assigned_in steps step ∙ ap (λ xs. flat_map assigned_in steps ++ xs) idle.unassigned
      ∙ append-nil (flat_map assigned_in steps))

  same_errors : (cpu : ℕ) → errors_after steps cpu ≡ errors_after (steps ++ step ∷ []) cpu
  same_errors cpu =
      let more = errors_more steps cpu step in
      let none : faults (taken_on cpu step) ≡ 0 = ap faults (idle.untaken cpu) in
      omega (arith, more, none)

  -- what came to the buffer is all that is new
  abbrev pub idle_tally : ℕ → Tally
  idle_tally cpu = record {
    came = followed_by (buffer_past_after account registry s steps cpu) (comes_by cpu step);
    errors = errors_after steps cpu;
    dyndrops = dynamic_drops s.options steps cpu;
    specdrops = spec_drops (specs_of s.options steps) cpu;
  }

  pub idle_is : (cpu : ℕ) → idle_tally cpu ≡ tally_after account registry s (steps ++ step ∷ []) cpu
  idle_is cpu = λ i. record {
    came = sym (buffer_more account registry s steps cpu step) i;
    errors = same_errors cpu i;
    dyndrops = sym (same_drops cpu) i;
    specdrops = sym (ap (λ (past : TracingPast). spec_drops past.specs cpu)
        (past_same s.options steps step idle.unassigned idle.unspeculated)) i;
  }

  pub idle_locals : (locals : Locals) → LocalsAreAt (locals_of s.options steps) locals
      → LocalsAreAt (locals_of s.options (steps ++ step ∷ [])) locals
  idle_locals locals h =
      subst (λ (past : TracingPast). LocalsAreAt past.locals locals)
      (sym (past_same s.options steps step idle.unassigned idle.unspeculated)) h

  pub idle_specs : (specs : Specs) → SpecsAt (specs_of s.options steps) specs
      → SpecsAt (specs_of s.options (steps ++ step ∷ [])) specs
  idle_specs specs h =
      subst (λ (past : TracingPast). SpecsAt past.specs specs)
      (sym (past_same s.options steps step idle.unassigned idle.unspeculated)) h

  -- where nothing comes to a buffer
  pub still_tally : (cpu : ℕ) → comes_by cpu step ≡ []
      → tally_after account registry s steps cpu ≡ tally_after account registry s (steps ++ step ∷ []) cpu
  still_tally cpu nothing =
      (λ i. record {
        came = record {
          policy = s.options.bufpolicy;
          size = s.options.bufsize;
          reserve = (buffer_past_after account registry s steps cpu).reserve;
          events = (sym (append-nil (comes_by_steps cpu steps)) ∙ ap (λ xs. comes_by_steps cpu steps ++ xs) (sym nothing)) i;
        };
        errors = errors_after steps cpu;
        dyndrops = dynamic_drops s.options steps cpu;
        specdrops = spec_drops (specs_of s.options steps) cpu;
      }) ∙ idle_is cpu

-- by a reading comes a swap, or nothing, and none of END's attempts
still_with : (b : Bool) (xs : List buffer.BufferEvent) → of_end xs ≡ []
    → of_end (xs ++ cond b (swap ∷ []) []) ≡ []
still_with true xs e = of_end-append xs (swap ∷ []) ∙ ap (λ ys. ys ++ []) e
still_with false xs e = ap of_end (append-nil xs) ∙ e

pub still_read : (steps : List TracingStep) (cpu j : ℕ) → of_end (comes_by_steps j steps) ≡ []
    → of_end (comes_by_steps j (steps ++ reads cpu ∷ [])) ≡ []
still_read steps cpu j e =
    ap of_end (one_more (comes_by j) steps (reads cpu)) ∙ still_with (cpu == j) (comes_by_steps j steps) e

pub truncates_idle : (name : List ℕ) → IsIdle (truncates name)
truncates_idle name = record { unassigned = refl; unspeculated = refl; untaken = λ j. refl }

pub reads_idle : (cpu : ℕ) → IsIdle (reads cpu)
reads_idle cpu = record { unassigned = refl; unspeculated = refl; untaken = λ j. refl }

module _ (account : Account) (registry : Registry) (s : SetUp) (steps : List TracingStep) (all : List Processor) (cpu : ℕ)
    (taken : AreTallied (tally_after account registry s steps) all) where
  elsewhere : (j : ℕ) → j ≢ cpu
      → tally_after account registry s steps j ≡ tally_after account registry s (steps ++ reads cpu ∷ []) j
  elsewhere j ne =
      still_tally account registry s steps (reads cpu) (reads_idle cpu) j
      (ap (λ b. cond b (swap ∷ []) []) (ne_eqb cpu j (λ e. ne (sym e))))

  -- a reading is a swap on its processor alone
  pub taken_snapped : (p q : Processor) → cpu < length all → p ≡ get_or all cpu p
      → ((past : BufferPast) → BufferIsAt past p.buffer → BufferIsAt (buffer_after past swap) q.buffer)
      → CountsTheSame p q → AreTallied (tally_after account registry s (steps ++ reads cpu ∷ [])) (slice_set all cpu q)
  taken_snapped p q inside at swapped same =
      tallied_set (tally_after account registry s steps) (tally_after account registry s (steps ++ reads cpu ∷ [])) all cpu p q
      inside at
      (λ k. retally _ _ q (idle_is account registry s steps (reads cpu) (reads_idle cpu) cpu)
      (record {
        stands = subst (λ b. BufferIsAt (followed_by (buffer_past_after account registry s steps cpu) (cond b (swap ∷ []) [])) q.buffer)
            (sym (eq-eqb cpu cpu refl)) (swapped (buffer_past_after account registry s steps cpu) k.stands);
        counted = same.0 ∙ k.counted;
        dynamic_dropped = same.1 ∙ k.dynamic_dropped;
        speculative_dropped = same.2 ∙ k.speculative_dropped;
      }))
      elsewhere taken

  -- there is no such processor
  pub taken_snapped-past : length all ≤ cpu → AreTallied (tally_after account registry s (steps ++ reads cpu ∷ [])) all
  taken_snapped-past past = λ j. ⊎_elim
      (λ e. nothing_past _ all j (omega arith))
      (λ ne. if_some_map _ _ (slice_get all j) (λ p. subst (λ t. IsTallied t p) (elsewhere j ne)) (taken j))
      (cases_eq j cpu)
