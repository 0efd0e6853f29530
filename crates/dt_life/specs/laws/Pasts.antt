-- What one taking more adds to what came to variables and to speculations, and to what was dropped of it.
use Rattle.std.proofs.Common.{◌≡◌, ℕ, ◌+◌, ◌==◌, ◌&&◌, Bool, true, false, cond, not, List, [], ◌∷◌, ◌++◌, length, map}
use Rattle.std.proofs.Common.{Option, Some, None, append_assoc, refl, sym, ap, ap₂, ◌∙◌, arith}
use Rattle.std.specs.Prelude.{zip, count_by, nat_lt}
use Rattle.std.specs.Option.{option_and_then, option_map, option_to_list}
use Rattle.std.specs.List.{AllByRecursion, flat_map}
use Rattle.std.proofs.lemmas.List.{append-nil, length-map, map-append}
use Rattle.std.proofs.lemmas.List.Sums.{sum_by-append}
use Rattle.dt_locals.specs.Chosen.{local_drops, locals_choice}
use Rattle.dt_locals.specs.History.{Assignment, LocalsPast}
use Rattle.dt_locals.specs.laws.After.{Kept, drops_more}
use Rattle.dt_locals.specs.laws.Choices.{is_choice, locals_choice-after}
use Rattle.dt_record.specs.Pasts.{past_then}
use Rattle.dt_record.specs.Taking.{Effect, SpecEndForm, TakenForm, drawn_by, records, gives, exits, assigns, draws, speculates, ends}
use Rattle.dt_speculation.specs.History.{SpecEvent, SpecPast, draw, put_under, free, specs_then, spec_after}
use Rattle.dt_speculation.specs.Parts.{part_bytes, spec_drops}
use Rattle.dt_speculation.specs.Uses.{is_in_use}
use Rattle.dt_speculation.specs.laws.Drops.{drops_more as spec_drops_after}
use Rattle.dt_life.specs.Options.{OptionsForm}
use Rattle.dt_life.specs.Takings.{Taking, assignments_of, cpu_of, draws_of, ends_of, freed_by, left_by, puts_of, spec_events_of}
use Rattle.dt_life.specs.TracingSteps.{TracingStep, takes, assigned_in, dynamic_drops, locals_of, past_of_steps, specs_of, speculated_in}
use Rattle.dt_life.specs.laws.TracingSteps.{one_more}

abbrev Placed : Type 0
Placed = ℕ × Assignment

abbrev assignment_of : Placed → Assignment
assignment_of one = one.1

abbrev placed_on : ℕ → List Assignment → List Placed
placed_on cpu assignments = map (λ assignment. (cpu, assignment)) assignments

unplaced : (cpu : ℕ) (assignments : List Assignment) → map assignment_of (placed_on cpu assignments) ≡ assignments
unplaced cpu [] = refl
unplaced cpu (a ∷ later) = ap (λ rest. a ∷ rest) (unplaced cpu later)

module _ (options : OptionsForm) (steps : List TracingStep) (t : Taking) where
  assigned_more : flat_map assigned_in (steps ++ takes t ∷ []) ≡ flat_map assigned_in steps ++ placed_on (cpu_of t) (assignments_of t)
  assigned_more = one_more assigned_in steps (takes t)

  assignments_more : (locals_of options (steps ++ takes t ∷ [])).assignments
      ≡ (locals_of options steps).assignments ++ assignments_of t
  assignments_more =
      ap (map assignment_of) assigned_more
      ∙ map-append assignment_of (flat_map assigned_in steps) (placed_on (cpu_of t) (assignments_of t))
      ∙ ap (λ xs. (locals_of options steps).assignments ++ xs) (unplaced (cpu_of t) (assignments_of t))

  -- What came before, and then what the taking assigns and what comes to speculations by it.
  pub past_more : past_of_steps options (steps ++ takes t ∷ [])
      ≡ past_then (past_of_steps options steps) (assignments_of t) (spec_events_of t)
  past_more = ap₂ (λ xs ys. record {
    locals = record { dynvarsize = options.dynvarsize; assignments = xs };
    specs = record { nspec = options.nspec; specsize = options.specsize; events = ys };
  }) assignments_more (one_more speculated_in steps (takes t))

-- by a step that assigns nothing, and by which nothing comes to speculations, it stays
pub past_same : (options : OptionsForm) (steps : List TracingStep) (step : TracingStep) → assigned_in step ≡ []
    → speculated_in step ≡ [] → past_of_steps options (steps ++ step ∷ []) ≡ past_of_steps options steps
past_same options steps step no_assignment no_event = ap₂ (λ xs ys. record {
  locals = record { dynvarsize = options.dynvarsize; assignments = map assignment_of xs };
  specs = record { nspec = options.nspec; specsize = options.specsize; events = ys };
})
    (one_more assigned_in steps step ∙ ap (λ xs. flat_map assigned_in steps ++ xs) no_assignment
    ∙ append-nil (flat_map assigned_in steps))
    (one_more speculated_in steps step ∙ ap (λ xs. flat_map speculated_in steps ++ xs) no_event
    ∙ append-nil (flat_map speculated_in steps))

-- dynamic variable drops
module _ (dynvarsize cpu : ℕ) where
  abbrev past_at : List Placed → LocalsPast
  past_at placed = record { dynvarsize = dynvarsize; assignments = map assignment_of placed }

  abbrev is_drop : Placed × Bool → Bool
  is_drop one = one.0.0 == cpu && not one.1

  drops_of : List Placed → ℕ
  drops_of placed = count_by is_drop (zip placed (locals_choice (past_at placed)))

  zip_push : (xs : List Placed) (x : Placed) (bs : List Bool) (b : Bool) → length bs ≡ length xs
      → zip (xs ++ x ∷ []) (bs ++ b ∷ []) ≡ zip xs bs ++ (x, b) ∷ []
  zip_push [] x [] b e = refl
  zip_push [] x (c ∷ bs) b e = absurd (omega arith)
  zip_push (y ∷ xs) x [] b e = absurd (omega arith)
  zip_push (y ∷ xs) x (c ∷ bs) b e = ap (λ rest. (y, c) ∷ rest) (zip_push xs x bs b (omega arith))

  abbrev is_kept : List Placed → Placed → Bool
  is_kept placed one = Kept (past_at placed) one.1

  past_push : (placed : List Placed) (one : Placed)
      → past_at (placed ++ one ∷ [])
      ≡ record { dynvarsize = dynvarsize; assignments = map assignment_of placed ++ one.1 ∷ [] }
  past_push placed one =
      ap (λ xs. record { dynvarsize = dynvarsize; assignments = xs }) (map-append assignment_of placed (one ∷ []))

  drop_one : (placed : List Placed) (one : Placed)
      → drops_of (placed ++ one ∷ []) ≡ drops_of placed + cond (one.0 == cpu && not (is_kept placed one)) 1 0
  unfolding drops_of
  drop_one placed one =
      ap (λ past. count_by is_drop (zip (placed ++ one ∷ []) (locals_choice past))) (past_push placed one)
      ∙ ap (λ chosen. count_by is_drop (zip (placed ++ one ∷ []) chosen)) (locals_choice-after (past_at placed) one.1)
      ∙ ap (count_by is_drop) (zip_push placed one (locals_choice (past_at placed)) (is_kept placed one)
      ((is_choice (past_at placed)).whole ∙ length-map placed assignment_of))
      ∙ sum_by-append (λ x. cond (is_drop x) 1 0) (zip placed (locals_choice (past_at placed)))
      ((one, is_kept placed one) ∷ []) ∙ omega arith

  local_one : (placed : List Placed) (one : Placed)
      → local_drops (past_at (placed ++ one ∷ [])) ≡ local_drops (past_at placed) + cond (not (is_kept placed one)) 1 0
  local_one placed one = ap local_drops (past_push placed one) ∙ drops_more (past_at placed) one.1

  one_first : (placed : List Placed) (there : ℕ) (a : Assignment) (later : List Assignment)
      → placed ++ placed_on there (a ∷ later) ≡ (placed ++ (there, a) ∷ []) ++ placed_on there later
  one_first placed there a later = sym (append_assoc placed ((there, a) ∷ []) (placed_on there later))

  drops_here : (there : ℕ) → (there == cpu) ≡ true → (placed : List Placed) (assignments : List Assignment)
      → drops_of (placed ++ placed_on there assignments) + local_drops (past_at placed)
      ≡ drops_of placed + local_drops (past_at (placed ++ placed_on there assignments))
  drops_here there e placed [] =
      ap (λ xs. drops_of xs + local_drops (past_at placed)) (append-nil placed)
      ∙ ap (λ xs. drops_of placed + local_drops (past_at xs)) (sym (append-nil placed))
  drops_here there e placed (a ∷ later) =
      let one : drops_of (placed ++ (there, a) ∷ []) ≡ drops_of placed + cond (not (is_kept placed (there, a))) 1 0 =
      drop_one placed (there, a) ∙ ap (λ b. drops_of placed + cond (b && not (is_kept placed (there, a))) 1 0) e in
      let local = local_one placed (there, a) in
      let more = drops_here there e (placed ++ (there, a) ∷ []) later in
      ap (λ xs. drops_of xs + local_drops (past_at placed)) (one_first placed there a later)
      ∙ omega (arith, one, local, more)
      ∙ ap (λ xs. drops_of placed + local_drops (past_at xs)) (sym (one_first placed there a later))

  drops_elsewhere : (there : ℕ) → (there == cpu) ≡ false → (placed : List Placed) (assignments : List Assignment)
      → drops_of (placed ++ placed_on there assignments) ≡ drops_of placed
  drops_elsewhere there e placed [] = ap drops_of (append-nil placed)
  drops_elsewhere there e placed (a ∷ later) =
      ap drops_of (one_first placed there a later)
      ∙ drops_elsewhere there e (placed ++ (there, a) ∷ []) later
      ∙ drop_one placed (there, a)
      ∙ ap (λ b. drops_of placed + cond (b && not (is_kept placed (there, a))) 1 0) e
      ∙ omega arith

module _ (options : OptionsForm) (steps : List TracingStep) (t : Taking) (cpu : ℕ) where
  drops_as : (all : List TracingStep)
      → dynamic_drops options all cpu ≡ drops_of options.dynvarsize cpu (flat_map assigned_in all)
  unfolding drops_of
  drops_as all = refl

  -- the drops of the taking's own processor grow as those of the variables do
  pub dynamic_here : (cpu_of t == cpu) ≡ true
      → dynamic_drops options (steps ++ takes t ∷ []) cpu + local_drops (locals_of options steps)
      ≡ dynamic_drops options steps cpu + local_drops (locals_of options (steps ++ takes t ∷ []))
  dynamic_here e =
      ap (λ n. n + local_drops (locals_of options steps))
      (drops_as (steps ++ takes t ∷ []) ∙ ap (drops_of options.dynvarsize cpu) (assigned_more options steps t))
      ∙ drops_here options.dynvarsize cpu (cpu_of t) e (flat_map assigned_in steps) (assignments_of t)
      ∙ ap (λ xs. drops_of options.dynvarsize cpu (flat_map assigned_in steps) + local_drops (past_at options.dynvarsize cpu xs))
      (sym (assigned_more options steps t))
      ∙ ap (λ n. n + local_drops (locals_of options (steps ++ takes t ∷ []))) (sym (drops_as steps))

  -- and those of another stay
  pub dynamic_elsewhere : (cpu_of t == cpu) ≡ false
      → dynamic_drops options (steps ++ takes t ∷ []) cpu ≡ dynamic_drops options steps cpu
  dynamic_elsewhere e =
      drops_as (steps ++ takes t ∷ []) ∙ ap (drops_of options.dynvarsize cpu) (assigned_more options steps t)
      ∙ drops_elsewhere options.dynvarsize cpu (cpu_of t) e (flat_map assigned_in steps) (assignments_of t)
      ∙ sym (drops_as steps)

-- records that parts drop
abbrev pub IsNoPut : SpecEvent → Type 0
IsNoPut (put_under id cpu bytes) = ⊥
IsNoPut _ = Unit {0}

-- no record is put on the processor
abbrev IsQuietOn : ℕ → SpecEvent → Type 0
IsQuietOn cpu (put_under id at bytes) = (at == cpu) ≡ false
IsQuietOn cpu _ = Unit {0}

one_quiet : (past : SpecPast) (cpu : ℕ) (event : SpecEvent) → IsQuietOn cpu event
    → spec_drops (spec_after past event) cpu ≡ spec_drops past cpu
one_quiet past cpu (draw answer) h = spec_drops_after past (draw answer) cpu ∙ omega arith
one_quiet past cpu (put_under id at bytes) h =
    spec_drops_after past (put_under id at bytes) cpu
    ∙ ap (λ b. spec_drops past cpu + cond (b && (is_in_use id past.events
    && nat_lt past.specsize (length (part_bytes past id cpu) + length bytes))) 1 0) h
    ∙ omega arith
one_quiet past cpu (free id) h = spec_drops_after past (free id) cpu ∙ omega arith

-- where no record is put, none is dropped
quiet_drops : (cpu : ℕ) (events : List SpecEvent) (past : SpecPast) → AllByRecursion (IsQuietOn cpu) events
    → spec_drops (specs_then past events) cpu ≡ spec_drops past cpu
quiet_drops cpu [] past h =
    ap (λ xs. spec_drops (record { nspec = past.nspec; specsize = past.specsize; events = xs }) cpu) (append-nil past.events)
quiet_drops cpu (event ∷ later) past h =
    ap (λ xs. spec_drops (record { nspec = past.nspec; specsize = past.specsize; events = xs }) cpu)
    (sym (append_assoc past.events (event ∷ []) later))
    ∙ quiet_drops cpu later (spec_after past event) h.1
    ∙ one_quiet past cpu event h.0

quiet_anywhere : (cpu : ℕ) (events : List SpecEvent) → AllByRecursion IsNoPut events → AllByRecursion (IsQuietOn cpu) events
quiet_anywhere cpu [] h = tt
quiet_anywhere cpu (draw answer ∷ later) h = (tt, quiet_anywhere cpu later h.1)
quiet_anywhere cpu (put_under id at bytes ∷ later) h = absurd h.0
quiet_anywhere cpu (free id ∷ later) h = (tt, quiet_anywhere cpu later h.1)

pub drawn_quiet : (effects : List Effect) → AllByRecursion IsNoPut (flat_map drawn_by effects)
drawn_quiet [] = tt
drawn_quiet (records bytes ∷ later) = drawn_quiet later
drawn_quiet (gives values ∷ later) = drawn_quiet later
drawn_quiet (exits status ∷ later) = drawn_quiet later
drawn_quiet (assigns assignment ∷ later) = drawn_quiet later
drawn_quiet (draws answer assignment ∷ later) = (tt, drawn_quiet later)
drawn_quiet (speculates id ∷ later) = drawn_quiet later
drawn_quiet (ends end ∷ later) = drawn_quiet later

pub freed_quiet : (list : List SpecEndForm) → AllByRecursion IsNoPut (freed_by list)
freed_quiet [] = tt
freed_quiet (end ∷ later) = (tt, freed_quiet later)

module _ (options : OptionsForm) (steps : List TracingStep) (t : Taking) (cpu : ℕ) where
  -- no draw is a drop
  pub no_drop_drawn : spec_drops (specs_then (specs_of options steps) (draws_of t)) cpu ≡ spec_drops (specs_of options steps) cpu
  no_drop_drawn = quiet_drops cpu (draws_of t) (specs_of options steps) (quiet_anywhere cpu (draws_of t) (drawn_quiet t.taken.effects))

  -- and no end is
  pub no_drop_ended : spec_drops (specs_of options (steps ++ takes t ∷ [])) cpu
      ≡ spec_drops (specs_then (specs_of options steps) (draws_of t ++ puts_of t)) cpu
  no_drop_ended =
      ap (λ xs. spec_drops (record { nspec = options.nspec; specsize = options.specsize; events = xs }) cpu)
      (one_more speculated_in steps (takes t)
      ∙ sym (append_assoc (specs_of options steps).events (draws_of t ++ puts_of t) (freed_by (ends_of t))))
      ∙ quiet_drops cpu (freed_by (ends_of t)) (specs_then (specs_of options steps) (draws_of t ++ puts_of t)) (quiet_anywhere cpu (freed_by (ends_of t)) (freed_quiet (ends_of t)))

  -- on another processor than its own nothing is
  put_elsewhere : (cpu_of t == cpu) ≡ false → (id : Option ℕ) (bytes : Option (List ℕ)) → AllByRecursion (IsQuietOn cpu)
      (option_to_list (option_and_then (λ id. option_map (put_under id (cpu_of t)) bytes) id))
  put_elsewhere e None bytes = tt
  put_elsewhere e (Some id) None = tt
  put_elsewhere e (Some id) (Some bytes) = (e, tt)

  puts_elsewhere : (cpu_of t == cpu) ≡ false → (o : Option TakenForm) → AllByRecursion (IsQuietOn cpu)
      (option_to_list (option_and_then
      (λ (form : TakenForm). option_and_then (λ id. option_map (put_under id (cpu_of t)) form.record_bytes) form.spec) o))
  puts_elsewhere e None = tt
  puts_elsewhere e (Some form) = put_elsewhere e form.spec form.record_bytes

  quiet_both : (xs ys : List SpecEvent) → AllByRecursion (IsQuietOn cpu) xs → AllByRecursion (IsQuietOn cpu) ys
      → AllByRecursion (IsQuietOn cpu) (xs ++ ys)
  quiet_both [] ys h k = k
  quiet_both (x ∷ xs) ys h k = (h.0, quiet_both xs ys h.1 k)

  pub no_drop_elsewhere : (cpu_of t == cpu) ≡ false
      → spec_drops (specs_of options (steps ++ takes t ∷ [])) cpu ≡ spec_drops (specs_of options steps) cpu
  no_drop_elsewhere e =
      no_drop_ended
      ∙ quiet_drops cpu (draws_of t ++ puts_of t) (specs_of options steps)
      (quiet_both (draws_of t) (puts_of t) (quiet_anywhere cpu (draws_of t) (drawn_quiet t.taken.effects))
      (puts_elsewhere e (left_by t)))
