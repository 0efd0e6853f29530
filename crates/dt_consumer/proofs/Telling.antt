-- What `status` tells.
use Rattle.std.proofs.Common.{◌≡◌, ℕ, suc, ◌+◌, ◌==◌, ◌&&◌, Bool, not, true, List, [], ◌∷◌, length, map}
use Rattle.std.proofs.Common.{replicate, refl, sym, ap, ◌∙◌, subst, arith}
use Rattle.std.specs.Prelude.{zip, count_by}
use Rattle.std.specs.List.{slice_get, range_with_len}
use Rattle.std.specs.Option.{IfSome}
use Rattle.dt_cred.specs.declared.account.Account.{Account}
use Rattle.dt_locals.specs.Chosen.{locals_choice}
use Rattle.dt_locals.specs.History.{Assignment}
use Rattle.dt_machine.specs.Registry.{Registry}
use Rattle.dt_speculation.specs.Answers.{failed_draws}
use Rattle.dt_speculation.specs.History.{SpecEvent}
use Rattle.dt_speculation.specs.Parts.{spec_drops}
use Rattle.dt_life.specs.Buffers.{errors}
use Rattle.dt_life.specs.Life.{Item, seen_count, set_up, tracing_steps}
use Rattle.dt_life.specs.Reply.{all_dyndrops, all_errors, all_specdrops}
use Rattle.dt_life.specs.Takings.{TracingEvent, began, seen, snapped, truncated, ended, closed, faults}
use Rattle.dt_life.specs.Variables.{dyndrops_in, specdrops_in, specfails_in}
use Rattle.dt_consumer.specs.Keeps.{IsTracing, is_quiet}
use Rattle.dt_consumer.specs.declared.processor.Processor.{Processor}
use Rattle.dt_consumer.specs.declared.tracing.Tracing.{Tracing}
use Rattle.dt_life.specs.laws.Lists.{all_zero}
use Rattle.dt_life.specs.laws.Options.{if_some_map}
use Rattle.dt_consumer.proofs.Idle.{idle_assigned, idle_speculated, idle_taken, quiet_steps}

-- what is counted on each processor
each_count : (count : Processor → ℕ) (f : ℕ → ℕ) (base : ℕ) (xs : List Processor)
    → ((i : ℕ) → IfSome (slice_get xs i) (λ p. count p ≡ f (base + i)))
    → map count xs ≡ map f (range_with_len base (length xs))
each_count count f base [] each = refl
each_count count f base (p ∷ xs) each =
    ap (λ n. n ∷ map count xs) (each 0 ∙ ap f (omega arith))
    ∙ ap (λ ns. f base ∷ ns)
    (each_count count f (base + 1) xs
    (λ i. subst (λ k. IfSome (slice_get xs i) (λ (p : Processor). count p ≡ f k)) (shift base i) (each (suc i))))
  where
    shift : (base i : ℕ) → base + suc i ≡ base + 1 + i
    shift base i = omega arith

pub none_seen : (events : List TracingEvent) → is_quiet events ≡ true → seen_count events ≡ 0
none_seen [] e = refl
none_seen (began ∷ events) e = cc
none_seen (seen firing ∷ events) e = cc
none_seen (snapped n ∷ events) e = none_seen events e
none_seen (truncated name ∷ events) e = none_seen events e
none_seen (ended end ∷ events) e = cc
none_seen (closed ∷ events) e = none_seen events e

module _ (account : Account) (registry : Registry) (life : List Item) where
  module _ (t : Tracing) (is : IsTracing account registry (set_up account registry life) t) where
    counts_told : (count : Processor → ℕ) (f : ℕ → ℕ)
        → ((i : ℕ) → IfSome (slice_get t.processors.all.items i) (λ p. count p ≡ f i))
        → map count t.processors.all.items ≡ map f (range_with_len 0 registry.cpus)
    counts_told count f each =
        each_count count f 0 t.processors.all.items
        (λ i. subst (λ k. IfSome (slice_get t.processors.all.items i) (λ (p : Processor). count p ≡ f k)) (omega arith) (each i))
        ∙ ap (λ n. map f (range_with_len 0 n)) is.all_processors

    -- what the processors count, from `go` on
    pub errors_told : map (λ (p : Processor). p.errors) t.processors.all.items ≡ all_errors account registry life
    errors_told = counts_told (λ p. p.errors) (errors account registry life)
        (λ i. if_some_map _ _ (slice_get t.processors.all.items i) (λ p h. h.counted) (is.processors.each i))

    pub dyndrops_told : map (λ (p : Processor). p.dyndrops) t.processors.all.items ≡ all_dyndrops account registry life
    dyndrops_told = counts_told (λ p. p.dyndrops) (dyndrops_in account registry (set_up account registry life))
        (λ i. if_some_map _ _ (slice_get t.processors.all.items i) (λ p h. h.dynamic_dropped) (is.processors.each i))

    pub specdrops_told : map (λ (p : Processor). p.specdrops) t.processors.all.items ≡ all_specdrops account registry life
    specdrops_told = counts_told (λ p. p.specdrops) (specdrops_in account registry (set_up account registry life))
        (λ i. if_some_map _ _ (slice_get t.processors.all.items i) (λ p h. h.speculative_dropped) (is.processors.each i))

  -- and where it never traced
  module _ (quiet : is_quiet (set_up account registry life).since ≡ true) where
    pub no_errors : replicate registry.cpus 0 ≡ all_errors account registry life
    no_errors =
        sym (all_zero (errors account registry life) registry.cpus 0
        (λ cpu. ap faults (idle_taken cpu (tracing_steps account registry (set_up account registry life))
        (quiet_steps account registry (set_up account registry life) quiet))))

    pub no_dyndrops : replicate registry.cpus 0 ≡ all_dyndrops account registry life
    no_dyndrops =
        let s = set_up account registry life in
        sym (all_zero (dyndrops_in account registry s) registry.cpus 0
        (λ cpu. ap (λ (placed : List (ℕ × Assignment)).
        count_by (λ (one : (ℕ × Assignment) × Bool). one.0.0 == cpu && not one.1)
        (zip placed (locals_choice (record {
          dynvarsize = s.options.dynvarsize;
          assignments = map (λ (one : ℕ × Assignment). one.1) placed;
        }))))
        (idle_assigned (tracing_steps account registry s) (quiet_steps account registry s quiet))))

    pub no_specdrops : replicate registry.cpus 0 ≡ all_specdrops account registry life
    no_specdrops =
        let s = set_up account registry life in
        sym (all_zero (specdrops_in account registry s) registry.cpus 0
        (λ cpu. ap (λ (events : List SpecEvent). spec_drops (record {
          nspec = s.options.nspec;
          specsize = s.options.specsize;
          events = events;
        }) cpu)
        (idle_speculated (tracing_steps account registry s) (quiet_steps account registry s quiet))))

    pub no_specfails : 0 ≡ specfails_in account registry (set_up account registry life)
    no_specfails =
        let s = set_up account registry life in
        sym (ap failed_draws (idle_speculated (tracing_steps account registry s) (quiet_steps account registry s quiet)))
