-- A taking of a clause that neither assigns, draws, ends a speculation, directs a record to one nor exits: one that does nothing but record, or
-- nothing but give to aggregations.
use Rattle.std.proofs.Common.{◌≡◌, ℕ, ◌+◌, ◌==◌, ◌≢◌, Bool, true, false, cond, List, [], ◌∷◌, ◌++◌, Option, None, map, ⊎_elim}
use Rattle.std.proofs.Common.{refl, sym, ap, ap₂, ◌∙◌, subst, arith}
use Rattle.std.specs.Option.{option_map, option_map_or, option_to_list}
use Rattle.std.specs.Prelude.{option_and_then}
use Rattle.std.proofs.lemmas.Bool.{cases_eq, ne_eqb}
use Rattle.std.proofs.lemmas.List.{append-nil}
use Rattle.dt_buffer.specs.History.{attempt}
use Rattle.dt_cred.specs.declared.account.Account.{Account}
use Rattle.dt_ecb.specs.Ecbs.{EcbForm}
use Rattle.dt_ecb.specs.Shapes.{ShapeForm}
use Rattle.dt_lang.specs.Program.{StatementForm}
use Rattle.dt_program.specs.Clause as program
use Rattle.dt_locals.specs.Chosen.{local_drops}
use Rattle.dt_locals.specs.History.{LocalsPast, locals_then}
use Rattle.dt_locals.specs.LocalsAreAt.{LocalsAreAt}
use Rattle.dt_locals.specs.declared.locals.Locals.{Locals}
use Rattle.dt_machine.specs.Context.{ContextForm}
use Rattle.dt_machine.specs.Registry.{Registry}
use Rattle.dt_record.specs.Taking.{Outcome, SpecEndForm, TakenForm, abandoned, leaves, only_records, passed_over, left_in}
use Rattle.dt_record.specs.laws.BareTakings.{IsBare}
use Rattle.dt_speculation.specs.History.{put_under, specs_then}
use Rattle.dt_speculation.specs.IsAt.{SpecsAt}
use Rattle.dt_speculation.specs.Parts.{spec_drops}
use Rattle.dt_speculation.specs.declared.speculations.Specs.{Specs}
use Rattle.dt_life.specs.Aggregations.{contributions_of, split_by, uses_by}
use Rattle.dt_life.specs.Buffers.{comes_by_steps, errors_after}
use Rattle.dt_life.specs.Life.{SetUp, shapes_in}
use Rattle.dt_life.specs.Takings.{Taking, assignments_of, draws_of, ends_of, exit_of, freed_by, puts_of, spec_events_of, taking_of}
use Rattle.dt_life.specs.TracingSteps.{TracingStep, takes, dynamic_drops, locals_of, past_of_steps, specs_of}
use Rattle.dt_life.specs.laws.Pasts.{dynamic_elsewhere}
use Rattle.dt_consumer.specs.Keeps.{tally_after}
use Rattle.dt_consumer.specs.Tallies.{AreTallied, Tally, changed_at, with_outcome, with_records}
use Rattle.dt_consumer.specs.declared.processor.Processor.{Processor}
use Rattle.dt_consumer.proofs.Leaving.{abandoned_tally, changed_is, known_drops, known_tally, locals_more, no_more, passed_tally, specs_more, tally_of, told_is}
use Rattle.dt_consumer.proofs.Parting.{events_none}
use Rattle.dt_consumer.proofs.Tallying.{retallied}

-- statements that do nothing but record use no aggregation
pub bare_uses : (shapes : List ShapeForm) (statements : List StatementForm) → only_records statements ≡ true
    → uses_by shapes statements ≡ []
bare_uses shapes [] h = refl
bare_uses shapes (program.trace a ∷ later) h = bare_uses shapes later h
bare_uses shapes (program.stack n ∷ later) h = bare_uses shapes later h
bare_uses shapes (program.ustack n ∷ later) h = bare_uses shapes later h
bare_uses shapes (program.exit f ∷ later) h = cc
bare_uses shapes (program.aggregate name keys call ∷ later) h = cc
bare_uses shapes (program.assign name f ∷ later) h = cc
bare_uses shapes (program.draw name ∷ later) h = cc
bare_uses shapes (program.speculate f ∷ later) h = cc
bare_uses shapes (program.commit f ∷ later) h = cc
bare_uses shapes (program.discard f ∷ later) h = cc

no_locals : (past : LocalsPast) → locals_then past [] ≡ past
no_locals past = ap (λ xs. record { dynvarsize = past.dynvarsize; assignments = xs }) (append-nil past.assignments)

-- what comes of such a clause by its outcome
bare_puts : (cpu : ℕ) (outcome : Outcome) → IsBare outcome → option_to_list (option_and_then
    (λ (form : TakenForm). option_and_then (λ id. option_map (put_under id cpu) form.record_bytes) form.spec) (left_in outcome)) ≡ []
bare_puts cpu abandoned h = refl
bare_puts cpu passed_over h = refl
bare_puts cpu (leaves form) h = ap (λ spec. option_to_list (option_and_then (λ id. option_map (put_under id cpu) form.record_bytes) spec)) h.0

bare_ends : (outcome : Outcome) → IsBare outcome
    → freed_by (option_map_or (λ (form : TakenForm). form.ends) (left_in outcome) []) ≡ []
bare_ends abandoned h = refl
bare_ends passed_over h = refl
bare_ends (leaves form) h = ap freed_by h.1

module _ (account : Account) (registry : Registry) (s : SetUp) (steps : List TracingStep) (in_end : Bool)
    (m : ContextForm) (ecb : EcbForm) where
  abbrev t : Taking
  t = taking_of in_end (past_of_steps s.options steps) m ecb

  abbrev cpu : ℕ
  cpu = m.firing.cpu

  -- clauses that do nothing but record give nothing to aggregations
  pub record_gives : only_records ecb.clause.statements ≡ true → contributions_of (shapes_in s) t ≡ []
  record_gives h = by_outcome t.taken.outcome
    where
      by_outcome : (outcome : Outcome) → option_map_or
          (λ (form : TakenForm). split_by (uses_by (shapes_in s) ecb.clause.statements) form.values) (left_in outcome) [] ≡ []
      by_outcome abandoned = refl
      by_outcome passed_over = refl
      by_outcome (leaves form) = ap (λ uses. split_by uses form.values) (bare_uses (shapes_in s) ecb.clause.statements h)

  module _ (is_bare : IsBare t.taken.outcome) (no_assignments : assignments_of t ≡ []) (no_draws : draws_of t ≡ []) where
    no_events : spec_events_of t ≡ []
    no_events =
        ap (λ xs. xs ++ puts_of t ++ freed_by (ends_of t)) no_draws
        ∙ ap (λ xs. xs ++ freed_by (ends_of t)) (bare_puts cpu t.taken.outcome is_bare)
        ∙ bare_ends t.taken.outcome is_bare

    -- it doesn't exit
    pub bare_exit : exit_of t ≡ None
    bare_exit = by_outcome t.taken.outcome is_bare
      where
        by_outcome : (outcome : Outcome) → IsBare outcome → option_and_then (λ (f : TakenForm). f.exit) (left_in outcome) ≡ None
        by_outcome abandoned k = refl
        by_outcome passed_over k = refl
        by_outcome (leaves form) k = k.2

    -- the variables and the speculations stay as they are
    pub bare_locals : (locals : Locals) → LocalsAreAt (locals_of s.options steps) locals
        → LocalsAreAt (locals_of s.options (steps ++ takes t ∷ [])) locals
    bare_locals locals at = locals_more account registry s steps in_end m ecb locals
        (subst (λ p. LocalsAreAt p locals) (sym (ap (locals_then (locals_of s.options steps)) no_assignments
        ∙ no_locals (locals_of s.options steps))) at)

    pub bare_specs : (specs : Specs) → SpecsAt (specs_of s.options steps) specs
        → SpecsAt (specs_of s.options (steps ++ takes t ∷ [])) specs
    bare_specs specs at = specs_more account registry s steps in_end m ecb specs
        (subst (λ p. SpecsAt p specs) (sym (ap (specs_then (specs_of s.options steps)) no_events
        ∙ events_none (specs_of s.options steps))) at)

    -- nothing that was assigned is counted
    same_drops : (j : ℕ) → dynamic_drops s.options steps j ≡ dynamic_drops s.options (steps ++ takes t ∷ []) j
    same_drops j = ⊎_elim (λ (e : j ≡ cpu). subst (λ k. dynamic_drops s.options steps k
        ≡ dynamic_drops s.options (steps ++ takes t ∷ []) k) (sym e) here) (λ ne. sym (there ne)) (cases_eq j cpu)
      where
        here : dynamic_drops s.options steps cpu ≡ dynamic_drops s.options (steps ++ takes t ∷ []) cpu
        here = let drops = local_drops (locals_of s.options steps) in
            let rest = known_drops account registry s steps in_end m ecb drops drops 0 refl
            (sym (ap local_drops (ap (locals_then (locals_of s.options steps)) no_assignments
            ∙ no_locals (locals_of s.options steps)))) (omega arith) in
            omega (arith, rest)

        there : j ≢ cpu → dynamic_drops s.options (steps ++ takes t ∷ []) j ≡ dynamic_drops s.options steps j
        there ne = dynamic_elsewhere s.options steps t j (ne_eqb cpu j (λ e. ne (sym e)))

    pub bare_known : (all : List Processor) → AreTallied (tally_after account registry s steps) all
        → AreTallied (known_tally account registry s steps in_end m ecb) all
    bare_known all k = retallied _ _ all (λ j. ap (λ n. record {
      came = (tally_after account registry s steps j).came;
      errors = (tally_after account registry s steps j).errors;
      dyndrops = n;
      specdrops = (tally_after account registry s steps j).specdrops;
    }) (same_drops j)) k

    -- what comes of it is counted on its processor
    pub bare_tally : (j : ℕ) → changed_at (known_tally account registry s steps in_end m ecb) cpu
        (with_outcome in_end t.taken.outcome (known_tally account registry s steps in_end m ecb cpu)) j
        ≡ tally_after account registry s (steps ++ takes t ∷ []) j
    bare_tally j = by_outcome t.taken.outcome refl is_bare
      where
        known : ℕ → Tally
        known = known_tally account registry s steps in_end m ecb

        same : (b : Bool) → cond b (known j) (known j) ≡ known j
        same true = refl
        same false = refl

        by_outcome : (outcome : Outcome) → t.taken.outcome ≡ outcome → IsBare outcome
            → changed_at known cpu (with_outcome in_end outcome (known cpu)) j
            ≡ tally_after account registry s (steps ++ takes t ∷ []) j
        by_outcome abandoned e k = abandoned_tally account registry s steps in_end m ecb e j
        by_outcome passed_over e k =
            changed_is (λ tally. tally) known cpu j ∙ same (cpu == j) ∙ passed_tally account registry s steps in_end m ecb e j
        by_outcome (leaves form) e k =
            ap (λ spec. changed_at known cpu (with_outcome in_end (leaves (of_spec spec)) (known cpu)) j) k.0
            ∙ changed_is (with_records in_end (option_to_list form.record_bytes)) known cpu j
            ∙ by_place (cpu == j) (option_to_list form.record_bytes)
            ∙ told_is account registry s steps in_end m ecb j (leaves (of_parts None [])) (e ∙ ap₂ (λ spec ends. leaves (of_parts spec ends)) k.0 k.1)
          where
            of_parts : Option ℕ → List SpecEndForm → TakenForm
            of_parts spec ends = record { record_bytes = form.record_bytes; spec = spec; values = form.values; ends = ends; exit = form.exit }

            of_spec : Option ℕ → TakenForm
            of_spec spec = of_parts spec form.ends

            by_place : (b : Bool) (records : List (List ℕ)) → cond b (with_records in_end records (known j)) (known j)
                ≡ tally_of account registry s steps in_end m ecb j
                (comes_by_steps j steps ++ map (λ bytes. attempt bytes in_end) (cond b records [] ++ []))
                (errors_after steps j + cond b 0 0) (spec_drops (specs_of s.options steps) j + cond b 0 0)
            by_place true records =
                ap (λ bs. tally_of account registry s steps in_end m ecb j
                (comes_by_steps j steps ++ map (λ bytes. attempt bytes in_end) bs) (errors_after steps j)
                (spec_drops (specs_of s.options steps) j)) (sym (append-nil records))
                ∙ ap₂ (tally_of account registry s steps in_end m ecb j
                (comes_by_steps j steps ++ map (λ bytes. attempt bytes in_end) (records ++ []))) (no_more _ true) (no_more _ true)
            by_place false records =
                ap (λ events. tally_of account registry s steps in_end m ecb j events (errors_after steps j)
                (spec_drops (specs_of s.options steps) j)) (sym (append-nil (comes_by_steps j steps)))
                ∙ ap₂ (tally_of account registry s steps in_end m ecb j (comes_by_steps j steps ++ []))
                (no_more _ false) (no_more _ false)
