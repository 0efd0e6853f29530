-- What one taking more tells of a processor, and where it leaves variables and speculations.
use Rattle.std.proofs.Common.{◌≡◌, ℕ, ◌+◌, ◌-◌, ◌≤◌, ◌==◌, Bool, true, false, cond, List, [], ◌∷◌, ◌++◌, map}
use Rattle.std.proofs.Common.{Option, Some, None, append_assoc, refl, sym, ap, ◌∙◌, subst, arith}
use Rattle.std.specs.Global.{Vec}
use Rattle.std.specs.Option.{is_some, option_and_then, option_map, option_map_or, option_to_list}
use Rattle.std.proofs.lemmas.List.{append-nil, map-append}
use Rattle.dt_buffer.specs.History as buffer
use Rattle.dt_ecb.specs.Shapes.{ShapeForm}
use Rattle.dt_locals.specs.Chosen.{local_drops}
use Rattle.dt_locals.specs.History.{Assignment, LocalsPast, locals_after, locals_then}
use Rattle.dt_locals.specs.LocalsAreAt.{LocalsAreAt}
use Rattle.dt_locals.specs.declared.locals.Locals.{Locals}
use Rattle.dt_locals.specs.laws.After.{drops_more}
use Rattle.dt_record.specs.TracingAt.{TracingAt}
use Rattle.dt_record.specs.Taking.{Outcome, SpecEndForm, TakenForm, abandoned, passed_over, leaves, is_abandoned}
use Rattle.dt_speculation.specs.Answers.{failed_draws}
use Rattle.dt_speculation.specs.History.{SpecEvent, SpecPast, draw, put_under, free, specs_then}
use Rattle.dt_speculation.specs.IsAt.{SpecsAt}
use Rattle.dt_speculation.specs.Parts.{is_dropped, spec_drops}
use Rattle.dt_speculation.specs.declared.speculations.Specs.{Specs}
use Rattle.dt_speculation.specs.laws.Drops.{drops_more as spec_drops_after}
use Rattle.dt_alone.specs.Happened.{ProcessorTold, dropped_of, given_as, only_attempts, only_drops, told_both, told_by}
use Rattle.dt_life.specs.Takings.{puts_in}
use Rattle.dt_alone.specs.declared.happened.Happened.TheVariants.{Failed, Left}
use Rattle.dt_alone.specs.declared.happened.Left as left
use Rattle.dt_alone.proofs.Bringing.{counted_one, same_told, told_of, told_one}
use Rattle.dt_alone.proofs.Taken.{ends_left, left_is, puts_left, puts_none}
use Rattle.dt_life.specs.Aggregations.{split_by, uses_by}
use Rattle.dt_life.specs.Buffers.{attempts_to, comes_by, records_to}
use Rattle.dt_life.specs.Options.{OptionsForm}
use Rattle.dt_life.specs.Stores.{given_on}
use Rattle.dt_life.specs.Takings.{Taking, assignments_of, cpu_of, draws_of, ends_of, faults, freed_by, left_by, parts_committed, parts_out, puts_of}
use Rattle.dt_life.specs.TracingSteps.{TracingStep, takes, dynamic_drops, locals_of, past_of_steps, specs_of, taken_on}
use Rattle.dt_life.specs.laws.Buffers.{errors_more}
use Rattle.dt_life.specs.laws.Pasts.{dynamic_elsewhere, dynamic_here, no_drop_drawn, no_drop_ended, past_more}
use Rattle.dt_life.specs.laws.TracingSteps.{one_more}

-- the same past, written in another way
pub events_both : (past : SpecPast) (xs ys : List SpecEvent) → specs_then (specs_then past xs) ys ≡ specs_then past (xs ++ ys)
events_both past xs ys =
    ap (λ events. record { nspec = past.nspec; specsize = past.specsize; events = events }) (append_assoc past.events xs ys)

pub events_none : (past : SpecPast) → specs_then past [] ≡ past
events_none past =
    ap (λ events. record { nspec = past.nspec; specsize = past.specsize; events = events }) (append-nil past.events)

-- drops of variables never become fewer
assignments_first : (past : LocalsPast) (a : Assignment) (later : List Assignment)
    → locals_then past (a ∷ later) ≡ locals_then (locals_after past a) later
assignments_first past a later =
    ap (λ xs. record { dynvarsize = past.dynvarsize; assignments = xs }) (sym (append_assoc past.assignments (a ∷ []) later))

drops_grow : (assignments : List Assignment) (past : LocalsPast)
    → local_drops past ≤ local_drops (locals_then past assignments)
drops_grow [] past =
    let same = ap (λ xs. local_drops (record { dynvarsize = past.dynvarsize; assignments = xs })) (append-nil past.assignments) in
    omega (arith, same)
drops_grow (a ∷ later) past =
    let first = ap local_drops (assignments_first past a later) in
    omega (arith, first, drops_more past a, drops_grow later (locals_after past a))

-- failed draws of two lists
pub failed-append : (xs ys : List SpecEvent) → failed_draws (xs ++ ys) ≡ failed_draws xs + failed_draws ys
failed-append [] ys = omega arith
failed-append (draw answer ∷ xs) ys = one (answer == 0) (failed-append xs ys)
  where
    one : (b : Bool) → failed_draws (xs ++ ys) ≡ failed_draws xs + failed_draws ys
        → cond b (failed_draws (xs ++ ys) + 1) (failed_draws (xs ++ ys))
        ≡ cond b (failed_draws xs + 1) (failed_draws xs) + failed_draws ys
    one true e = omega (arith, e)
    one false e = e
failed-append (put_under id cpu bytes ∷ xs) ys = failed-append xs ys
failed-append (free id ∷ xs) ys = failed-append xs ys

-- neither a put nor a free is one
put_fails_none : (id : Option ℕ) (bytes : Option (List ℕ)) (cpu : ℕ)
    → failed_draws (option_to_list (option_and_then (λ id. option_map (put_under id cpu) bytes) id)) ≡ 0
put_fails_none None bytes cpu = refl
put_fails_none (Some id) None cpu = refl
put_fails_none (Some id) (Some bytes) cpu = refl

puts_fail_none : (o : Option TakenForm) (cpu : ℕ) → failed_draws (option_to_list (option_and_then
    (λ (form : TakenForm). option_and_then (λ id. option_map (put_under id cpu) form.record_bytes) form.spec) o)) ≡ 0
puts_fail_none None cpu = refl
puts_fail_none (Some form) cpu = put_fails_none form.spec form.record_bytes cpu

frees_fail_none : (ends : List SpecEndForm) → failed_draws (freed_by ends) ≡ 0
frees_fail_none [] = refl
frees_fail_none (end ∷ ends) = frees_fail_none ends

-- a record that is put, and what parts drop of it
put_drops : (o : Option SpecEvent) (past : SpecPast) (cpu : ℕ)
    → spec_drops (specs_then past (option_to_list o)) cpu ≡ spec_drops past cpu + dropped_of cpu past (option_to_list o)
put_drops None past cpu = ap (λ x. spec_drops x cpu) (events_none past) ∙ omega arith
put_drops (Some e) past cpu =
    spec_drops_after past e cpu ∙ ap (λ n. spec_drops past cpu + n) (sym (counted_one (is_dropped cpu past) e))

module _ (options : OptionsForm) (steps : List TracingStep) (t : Taking) where
  -- the speculations after what is drawn
  abbrev pub drawn_past : SpecPast
  drawn_past = specs_then (specs_of options steps) (draws_of t)

  pub locals_is : locals_of options (steps ++ takes t ∷ []) ≡ locals_then (locals_of options steps) (assignments_of t)
  locals_is = ap (λ past. past.locals) (past_more options steps t)

  pub specs_is : specs_of options (steps ++ takes t ∷ [])
      ≡ specs_then (specs_then (specs_then (specs_of options steps) (draws_of t)) (puts_of t)) (freed_by (ends_of t))
  specs_is =
      ap (λ past. past.specs) (past_more options steps t)
      ∙ sym (events_both (specs_of options steps) (draws_of t ++ puts_of t) (freed_by (ends_of t)))
      ∙ ap (λ past. specs_then past (freed_by (ends_of t))) (sym (events_both (specs_of options steps) (draws_of t) (puts_of t)))

  -- they are after the taking
  pub kept_after : (locals : Locals) (specs : Specs)
      → LocalsAreAt (locals_then (locals_of options steps) (assignments_of t)) locals
      → SpecsAt (specs_then (specs_then (specs_then (specs_of options steps) (draws_of t)) (puts_of t)) (freed_by (ends_of t))) specs
      → TracingAt (past_of_steps options (steps ++ takes t ∷ [])) locals specs
  kept_after locals specs h k = record {
    variables = subst (λ past. LocalsAreAt past locals) (sym locals_is) h;
    speculations = subst (λ past. SpecsAt past specs) (sym specs_is) k;
  }

  -- what was counted before and after
  pub draws_more : failed_draws (specs_of options (steps ++ takes t ∷ [])).events
      ≡ failed_draws (specs_of options steps).events
      + (failed_draws (specs_then (specs_of options steps) (draws_of t)).events - failed_draws (specs_of options steps).events)
  draws_more =
      let before = (specs_of options steps).events in
      let drawn = draws_of t in
      let puts = puts_of t in
      let frees = freed_by (ends_of t) in
      let all = ap (λ (past : SpecPast). failed_draws past.events) specs_is in
      omega (
        arith,
        all,
        failed-append ((before ++ drawn) ++ puts) frees,
        failed-append (before ++ drawn) puts,
        failed-append before drawn,
        puts_fail_none (left_by t) (cpu_of t),
        frees_fail_none (ends_of t),
      )

  module _ (cpu : ℕ) where
    abbrev here : Bool
    here = cpu_of t == cpu

    variables_by : (b : Bool) → (cpu_of t == cpu) ≡ b → dynamic_drops options (steps ++ takes t ∷ []) cpu
        ≡ dynamic_drops options steps cpu
        + cond b (local_drops (locals_then (locals_of options steps) (assignments_of t)) - local_drops (locals_of options steps)) 0
    variables_by true e =
        let more = dynamic_here options steps t cpu e in
        let same = ap local_drops locals_is in
        let grow = drops_grow (assignments_of t) (locals_of options steps) in
        omega (arith, more, same, grow)
    variables_by false e = dynamic_elsewhere options steps t cpu e ∙ omega arith

    records_more : spec_drops (specs_of options (steps ++ takes t ∷ [])) cpu
        ≡ spec_drops (specs_of options steps) cpu
        + dropped_of cpu (specs_then (specs_of options steps) (draws_of t)) (puts_of t)
    records_more =
        no_drop_ended options steps t cpu
        ∙ ap (λ past. spec_drops past cpu) (sym (events_both (specs_of options steps) (draws_of t) (puts_of t)))
        ∙ put_drops _ (specs_then (specs_of options steps) (draws_of t)) cpu
        ∙ ap (λ n. n + dropped_of cpu (specs_then (specs_of options steps) (draws_of t)) (puts_of t))
        (no_drop_drawn options steps t cpu)

    -- What a taking tells.
    abbrev pub told_taking : List ShapeForm → ProcessorTold
    told_taking shapes = told_of (attempts_to cpu t) (faults (taken_on cpu (takes t))) (given_on shapes cpu (takes t))
        (cond (cpu_of t == cpu) (local_drops (locals_then (locals_of options steps) (assignments_of t)) - local_drops (locals_of options steps)) 0)
        (dropped_of cpu (specs_then (specs_of options steps) (draws_of t)) (puts_of t))
        (failed_draws (specs_then (specs_of options steps) (draws_of t)).events - failed_draws (specs_of options steps).events)

    pub taking_tells : (shapes : List ShapeForm)
        → told_by shapes options (steps ++ takes t ∷ []) cpu ≡ told_both (told_by shapes options steps cpu) (told_taking shapes)
    taking_tells shapes =
        same_told (told_by shapes options (steps ++ takes t ∷ []) cpu)
        (told_both (told_by shapes options steps cpu) (told_taking shapes))
        (one_more (comes_by cpu) steps (takes t)) (errors_more steps cpu (takes t)) (one_more (given_on shapes cpu) steps (takes t))
        (variables_by (cpu_of t == cpu) refl) records_more draws_more

module _ (options : OptionsForm) (steps : List TracingStep) (t : Taking) (shapes : List ShapeForm) (cpu variables draws : ℕ)
    (v : variables ≡ local_drops (locals_then (locals_of options steps) (assignments_of t)) - local_drops (locals_of options steps))
    (d : draws ≡ failed_draws (specs_then (specs_of options steps) (draws_of t)).events - failed_draws (specs_of options steps).events)
  where
    abbrev dropped_here : ℕ
    dropped_here = cond (cpu_of t == cpu) variables 0

    dropped_is : dropped_here ≡ (told_taking options steps t cpu shapes).variables_dropped
    dropped_is = ap (λ n. cond (cpu_of t == cpu) n 0) v

    counted_by : (outcome : Outcome) (b : Bool) → is_abandoned t.taken.outcome ≡ is_abandoned outcome
        → faults (cond b (t ∷ []) []) ≡ cond b (cond (is_abandoned outcome) 1 0) 0
    counted_by outcome true e = counted_one (λ (t : Taking). is_abandoned t.taken.outcome) t ∙ ap (λ b. cond b 1 0) e
    counted_by outcome false e = refl

    faults_by : (outcome : Outcome) (b : Bool) → is_abandoned t.taken.outcome ≡ is_abandoned outcome
        → faults (taken_on cpu (takes t)) ≡ cond (cpu_of t == cpu) (cond (is_abandoned outcome) 1 0) 0
    faults_by outcome b e = counted_by outcome (cpu_of t == cpu) e

    same_both : {X : Type 0} (b : Bool) (x : X) → cond b x x ≡ x
    same_both true x = refl
    same_both false x = refl

    -- where nothing was left, nothing comes and nothing is given
    module _ (none : left_by t ≡ None) where
      no_records : attempts_to cpu t ≡ []
      no_records =
          ap (λ (o : Option TakenForm). map (λ bytes. buffer.attempt bytes t.in_end)
          ((cond (cpu_of t == cpu) (option_to_list (option_and_then (λ (form : TakenForm). cond (is_some form.spec) None form.record_bytes) o)) [])
          ++ parts_out cpu (specs_then t.past.specs (draws_of t ++ puts_of t)) (option_map_or (λ (form : TakenForm). form.ends) o []))) none
          ∙ ap (λ xs. map (λ bytes. buffer.attempt bytes t.in_end) (xs ++ [])) (same_both (cpu_of t == cpu) [])

      no_gifts : given_on shapes cpu (takes t) ≡ []
      no_gifts =
          ap (λ (o : Option TakenForm). cond (cpu_of t == cpu)
          (option_map_or (λ (form : TakenForm). split_by (uses_by shapes t.ecb.clause.statements) form.values) o []) []) none
          ∙ same_both (cpu_of t == cpu) []

      -- it was passed over
      pub passed_tells : (before : ProcessorTold) → is_abandoned t.taken.outcome ≡ false
          → told_both before (told_taking options steps t cpu shapes)
          ≡ told_both (told_both before (only_drops (cond (cpu_of t == cpu) variables 0) 0 0)) (only_drops 0 0 draws)
      passed_tells before e =
          same_told _ _
          (ap (λ xs. before.came ++ xs) no_records ∙ sym (append-nil (before.came ++ [])))
          (ap (λ n. before.failures + n) (faults_by passed_over false e ∙ same_both (cpu_of t == cpu) 0) ∙ omega arith)
          (ap (λ xs. before.given ++ xs) no_gifts ∙ sym (append-nil (before.given ++ [])))
          (ap (λ n. before.variables_dropped + n) (sym dropped_is) ∙ omega arith)
          (ap (λ xs. before.records_dropped + dropped_of cpu (drawn_past options steps t) xs) (puts_none t none) ∙ omega arith)
          (ap (λ n. before.draws_failed + n) (sym d) ∙ omega arith)

      -- a division by zero ended it
      pub failed_tells : (before : ProcessorTold) → is_abandoned t.taken.outcome ≡ true
          → told_both before (told_taking options steps t cpu shapes)
          ≡ told_both (told_both (told_both before (only_drops (cond (cpu_of t == cpu) variables 0) 0 0)) (only_drops 0 0 draws))
          (told_one cpu (Failed (cpu_of t)))
      failed_tells before e =
          same_told _ _
          (ap (λ xs. before.came ++ xs) no_records ∙ sym (append-nil (before.came ++ [])) ∙ sym (append-nil ((before.came ++ []) ++ [])))
          (ap (λ n. before.failures + n) (faults_by abandoned false e) ∙ omega arith)
          (ap (λ xs. before.given ++ xs) no_gifts ∙ sym (append-nil (before.given ++ [])) ∙ sym (append-nil ((before.given ++ []) ++ [])))
          (ap (λ n. before.variables_dropped + n) (sym dropped_is) ∙ omega arith)
          (ap (λ xs. before.records_dropped + dropped_of cpu (drawn_past options steps t) xs) (puts_none t none) ∙ omega arith)
          (ap (λ n. before.draws_failed + n) (sym d) ∙ omega arith)

    -- it left something
    module _ (form : TakenForm) (l : left.Left) (in_end : Bool) (some : t.taken.outcome ≡ leaves form) (ends : t.in_end ≡ in_end)
        (past_is : t.past ≡ past_of_steps options steps)
        (bytes : option_map (λ (bytes : Vec ℕ). bytes.items) l.bytes ≡ cond (is_some form.spec) None form.record_bytes)
        (given : map given_as l.given.items ≡ split_by (uses_by shapes t.ecb.clause.statements) form.values) where
      own_attempt : (o : Option (Vec ℕ)) → map (λ bytes. buffer.attempt bytes in_end)
          (option_to_list (option_map (λ (bytes : Vec ℕ). bytes.items) o))
          ≡ option_to_list (option_map (λ (bytes : Vec ℕ). buffer.attempt bytes.items in_end) o)
      own_attempt None = refl
      own_attempt (Some bytes) = refl

      own_part : (b : Bool) → map (λ bytes. buffer.attempt bytes in_end) (cond b (option_to_list (cond (is_some form.spec) None form.record_bytes)) [])
          ≡ cond b (option_to_list (option_map (λ (bytes : Vec ℕ). buffer.attempt bytes.items in_end) l.bytes)) []
      own_part true = ap (λ o. map (λ bytes. buffer.attempt bytes in_end) (option_to_list o)) (sym bytes) ∙ own_attempt l.bytes
      own_part false = refl

      abbrev parts : List (List ℕ)
      parts = parts_out cpu (specs_then (specs_then (specs_of options steps) (draws_of t)) (puts_in (cpu_of t) form)) form.ends

      parts_are : parts_committed cpu t ≡ parts
      parts_are =
          ap (λ past. parts_out cpu past (ends_of t))
          (ap (λ past. specs_then past.specs (draws_of t ++ puts_of t)) past_is
          ∙ sym (events_both (specs_of options steps) (draws_of t) (puts_of t))
          ∙ ap (specs_then (specs_then (specs_of options steps) (draws_of t))) (puts_left t form some))
          ∙ ap (parts_out cpu (specs_then (specs_then (specs_of options steps) (draws_of t)) (puts_in (cpu_of t) form))) (ends_left t form some)

      records_are : records_to cpu t ≡ cond (cpu_of t == cpu) (option_to_list (cond (is_some form.spec) None form.record_bytes)) [] ++ parts
      records_are =
          ap (λ (o : Option TakenForm). cond (cpu_of t == cpu)
          (option_to_list (option_and_then (λ (form : TakenForm). cond (is_some form.spec) None form.record_bytes) o)) []
          ++ parts_committed cpu t) (left_is t form some)
          ∙ ap (λ xs. cond (cpu_of t == cpu) (option_to_list (cond (is_some form.spec) None form.record_bytes)) [] ++ xs) parts_are

      abbrev own : List buffer.BufferEvent
      own = (told_one cpu (Left (cpu_of t) in_end l)).came

      attempts_are : attempts_to cpu t ≡ own ++ map (λ bytes. buffer.attempt bytes in_end) parts
      attempts_are =
          ap (λ b. map (λ bytes. buffer.attempt bytes b) (records_to cpu t)) ends
          ∙ ap (map (λ bytes. buffer.attempt bytes in_end)) records_are
          ∙ map-append (λ bytes. buffer.attempt bytes in_end)
          (cond (cpu_of t == cpu) (option_to_list (cond (is_some form.spec) None form.record_bytes)) []) parts
          ∙ ap (λ xs. xs ++ map (λ bytes. buffer.attempt bytes in_end) parts) (own_part (cpu_of t == cpu))

      gifts_are : given_on shapes cpu (takes t) ≡ cond (cpu_of t == cpu) (map given_as l.given.items) []
      gifts_are =
          ap (λ (o : Option TakenForm). cond (cpu_of t == cpu)
          (option_map_or (λ (form : TakenForm). split_by (uses_by shapes t.ecb.clause.statements) form.values) o []) []) (left_is t form some)
          ∙ ap (λ xs. cond (cpu_of t == cpu) xs []) (sym given)

      nil_twice : {X : Type 0} (xs : List X) → (xs ++ []) ++ [] ≡ xs
      nil_twice xs = append-nil (xs ++ []) ∙ append-nil xs

      came_is : (before : List buffer.BufferEvent) → before ++ attempts_to cpu t
          ≡ ((((before ++ []) ++ []) ++ own) ++ []) ++ map (λ bytes. buffer.attempt bytes in_end) parts
      came_is before =
          ap (λ xs. before ++ xs) attempts_are ∙ sym (append_assoc before own (map (λ bytes. buffer.attempt bytes in_end) parts))
          ∙ ap (λ xs. (xs ++ own) ++ map (λ bytes. buffer.attempt bytes in_end) parts) (sym (nil_twice before))
          ∙ ap (λ xs. xs ++ map (λ bytes. buffer.attempt bytes in_end) parts) (sym (append-nil (((before ++ []) ++ []) ++ own)))

      pub left_tells : (before : ProcessorTold) → told_both before (told_taking options steps t cpu shapes)
          ≡ told_both (told_both (told_both
          (told_both (told_both before (only_drops (cond (cpu_of t == cpu) variables 0) 0 0)) (only_drops 0 0 draws))
          (told_one cpu (Left (cpu_of t) in_end l)))
          (only_drops 0 (dropped_of cpu (specs_then (specs_of options steps) (draws_of t)) (puts_in (cpu_of t) form)) 0))
          (only_attempts in_end (parts_out cpu (specs_then (specs_then (specs_of options steps) (draws_of t)) (puts_in (cpu_of t) form)) form.ends))
      left_tells before =
          same_told _ _
          (came_is before.came)
          (ap (λ n. before.failures + n) (faults_by (leaves form) false (ap is_abandoned some) ∙ same_both (cpu_of t == cpu) 0) ∙ omega arith)
          (ap (λ xs. before.given ++ xs) gifts_are
          ∙ ap (λ xs. xs ++ cond (cpu_of t == cpu) (map given_as l.given.items) []) (sym (nil_twice before.given))
          ∙ sym (nil_twice _))
          (ap (λ n. before.variables_dropped + n) (sym dropped_is) ∙ omega arith)
          (ap (λ xs. before.records_dropped + dropped_of cpu (drawn_past options steps t) xs) (puts_left t form some) ∙ omega arith)
          (ap (λ n. before.draws_failed + n) (sym d) ∙ omega arith)
