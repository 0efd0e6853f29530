-- What a taking makes of each processor, by what comes of its clause.
use Rattle.std.proofs.Common.{◌≡◌, ℕ, ◌+◌, ◌==◌, ◌&&◌, ◌-◌, ◌<◌, ◌≤◌, append_assoc, get_or, length, Bool, true, false, cond, List, [], ◌∷◌, ◌++◌, Option, Some, None, map}
use Rattle.std.proofs.Common.{refl, sym, ap, ap₂, ◌∙◌, subst, arith}
use Rattle.std.specs.Prelude.{count_by, nat_lt, option_and_then}
use Rattle.std.specs.Option.{option_map, option_map_or, option_to_list}
use Rattle.std.proofs.lemmas.Bool.{eq-eqb, eqb-true, ne_eqb}
use Rattle.std.specs.List.{slice_set}
use Rattle.std.proofs.lemmas.List.{append-nil}
use Rattle.std.proofs.lemmas.List.Sums.{sum_by-cons}
use Rattle.dt_buffer.specs.History.{BufferEvent, BufferPast, attempt}
use Rattle.dt_cred.specs.declared.account.Account.{Account}
use Rattle.dt_ecb.specs.Ecbs.{EcbForm}
use Rattle.dt_buffer.specs.History.{of_end}
use Rattle.dt_buffer.specs.IsAt.{BufferIsAt}
use Rattle.dt_buffer.specs.Shows.{EndLast}
use Rattle.dt_locals.specs.Chosen.{local_drops}
use Rattle.dt_locals.specs.History.{Assignment, LocalsPast, locals_after, locals_then}
use Rattle.dt_locals.specs.laws.After.{drops_more as local_drops_more}
use Rattle.dt_locals.specs.LocalsAreAt.{LocalsAreAt}
use Rattle.dt_locals.specs.declared.locals.Locals.{Locals}
use Rattle.dt_machine.specs.Context.{ContextForm}
use Rattle.dt_machine.specs.Registry.{Registry}
use Rattle.dt_record.specs.Pasts.{TracingPast}
use Rattle.dt_record.specs.Taking.{Outcome, TakenForm, abandoned, passed_over, leaves, is_abandoned, left_in}
use Rattle.dt_speculation.specs.History.{SpecEvent, SpecPast, put_under, specs_then}
use Rattle.dt_speculation.specs.IsAt.{SpecsAt}
use Rattle.dt_speculation.specs.Parts.{is_dropped, part_bytes, spec_drops}
use Rattle.dt_speculation.specs.Uses.{is_in_use}
use Rattle.dt_speculation.specs.declared.speculations.Specs.{Specs}
use Rattle.dt_speculation.specs.laws.Drops.{drops_more}
use Rattle.dt_life.specs.Buffers.{buffer_past_after, comes_by_steps, errors_after, reserve_on}
use Rattle.dt_life.specs.Life.{SetUp}
use Rattle.dt_life.specs.Takings.{Taking, assignments_of, draws_of, faults, freed_by, parts_out, puts_of, spec_events_of, taking_of}
use Rattle.dt_life.specs.TracingSteps.{TracingStep, takes, dynamic_drops, locals_of, past_of_steps, specs_of}
use Rattle.dt_life.specs.laws.Buffers.{buffer_more, errors_more}
use Rattle.dt_life.specs.laws.Pasts.{dynamic_elsewhere, dynamic_here, no_drop_drawn, no_drop_ended, past_more}
use Rattle.dt_consumer.specs.Keeps.{tally_after}
use Rattle.dt_consumer.specs.Tallies.{AreTallied, Tally, changed_at, record_in, with_left, with_records}
use Rattle.dt_life.specs.Takings.{puts_in}
use Rattle.dt_consumer.proofs.Parting.{events_both, events_none}
use Rattle.dt_consumer.proofs.Tallying.{last_on, records_both, tallied_set}
use Rattle.dt_consumer.specs.declared.processor.Processor.{Processor}

-- a tally that changes at one place, written by the tally of each place
pub changed_is : (f : Tally → Tally) (tallies : ℕ → Tally) (cpu j : ℕ)
    → changed_at tallies cpu (f (tallies cpu)) j ≡ cond (cpu == j) (f (tallies j)) (tallies j)
changed_is f tallies cpu j = by_place (cpu == j) refl
  where
    by_place : (b : Bool) → (cpu == j) ≡ b
        → changed_at tallies cpu (f (tallies cpu)) j ≡ cond (cpu == j) (f (tallies j)) (tallies j)
    by_place true e = ap (λ k. cond (cpu == j) (f (tallies k)) (tallies j)) (eqb-true cpu j e)
    by_place false e =
        ap (λ b. cond b (f (tallies cpu)) (tallies j)) e ∙ sym (ap (λ b. cond b (f (tallies j)) (tallies j)) e)

-- how many records are dropped on a processor by those that a clause leaves
one_dropped : (past : SpecPast) (cpu j id : ℕ) (bytes : List ℕ) (b : Bool) → (cpu == j) ≡ b
    → cond (is_dropped j past (put_under id cpu bytes)) 1 0
    ≡ cond b (count_by (is_dropped cpu past) (put_under id cpu bytes ∷ [])) 0
one_dropped past cpu j id bytes true e =
    ap (λ k. cond (is_dropped k past (put_under id cpu bytes)) 1 0) (sym (eqb-true cpu j e))
    ∙ omega (arith, sum_by-cons (λ (event : SpecEvent). cond (is_dropped cpu past event) 1 0) (put_under id cpu bytes) [])
one_dropped past cpu j id bytes false e =
    ap (λ b. cond (b && (is_in_use id past.events && nat_lt past.specsize (length (part_bytes past id j) + length bytes))) 1 0) e

pub no_more : (n : ℕ) (b : Bool) → n ≡ n + cond b 0 0
no_more n true = omega arith
no_more n false = omega arith

no_puts : (past : SpecPast) (cpu j : ℕ) → spec_drops (specs_then past []) j ≡ spec_drops past j + cond (cpu == j) 0 0
no_puts past cpu j = ap (λ p. spec_drops p j) (events_none past) ∙ no_more (spec_drops past j) (cpu == j)

-- what is put, of what a clause left, if it left something
abbrev pub puts_by : ℕ → Option TakenForm → List SpecEvent
puts_by cpu left = option_to_list (option_and_then
    (λ (form : TakenForm). option_and_then (λ id. option_map (put_under id cpu) form.record_bytes) form.spec) left)

put_drops_of : (past : SpecPast) (cpu j : ℕ) (spec : Option ℕ) (bytes : Option (List ℕ))
    → (let puts = option_to_list (option_and_then (λ id. option_map (put_under id cpu) bytes) spec) in
    spec_drops (specs_then past puts) j ≡ spec_drops past j + cond (cpu == j) (count_by (is_dropped cpu past) puts) 0)
put_drops_of past cpu j None bytes = no_puts past cpu j
put_drops_of past cpu j (Some id) None = no_puts past cpu j
put_drops_of past cpu j (Some id) (Some bytes) =
    drops_more past (put_under id cpu bytes) j
    ∙ ap (λ n. spec_drops past j + n) (one_dropped past cpu j id bytes (cpu == j) refl)

put_drops : (past : SpecPast) (cpu j : ℕ) (left : Option TakenForm) → spec_drops (specs_then past (puts_by cpu left)) j
    ≡ spec_drops past j + cond (cpu == j) (count_by (is_dropped cpu past) (puts_by cpu left)) 0
put_drops past cpu j None = no_puts past cpu j
put_drops past cpu j (Some form) = put_drops_of past cpu j form.spec form.record_bytes

faults_of : (b : Bool) (t : Taking) → faults (cond b (t ∷ []) []) ≡ cond b (cond (is_abandoned t.taken.outcome) 1 0) 0
faults_of true t = by_outcome (is_abandoned t.taken.outcome)
  where
    by_outcome : (a : Bool) → length (cond a (t ∷ []) []) ≡ cond a 1 0
    by_outcome true = refl
    by_outcome false = refl
faults_of false t = refl

-- drops of variables never become fewer
drops_grow : (assignments : List Assignment) (past : LocalsPast)
    → local_drops past ≤ local_drops (locals_then past assignments)
drops_grow [] past =
    let same : local_drops (locals_then past []) ≡ local_drops past =
    ap (λ xs. local_drops (record { dynvarsize = past.dynvarsize; assignments = xs })) (append-nil past.assignments) in
    omega (arith, same)
drops_grow (a ∷ later) past =
    let one = local_drops_more past a in
    let rest = drops_grow later (locals_after past a) in
    let same : local_drops (locals_then (locals_after past a) later) ≡ local_drops (locals_then past (a ∷ later)) =
    ap (λ xs. local_drops (record { dynvarsize = past.dynvarsize; assignments = xs }))
    (append_assoc past.assignments (a ∷ []) later) in
    omega (arith, one, rest, same)

module _ (account : Account) (registry : Registry) (s : SetUp) (steps : List TracingStep) (in_end : Bool)
    (m : ContextForm) (ecb : EcbForm) where
  abbrev t : Taking
  t = taking_of in_end (past_of_steps s.options steps) m ecb

  abbrev cpu : ℕ
  cpu = m.firing.cpu

  abbrev later : List TracingStep
  later = steps ++ takes t ∷ []

  -- the speculations after the draws
  abbrev drawn : SpecPast
  drawn = specs_then (specs_of s.options steps) (draws_of t)

  -- what is attempted at a processor's buffer, of what a clause left
  abbrev attempted : ℕ → Option TakenForm → List (List ℕ)
  attempted j left =
      cond (cpu == j) (option_to_list (option_and_then (λ (form : TakenForm). record_in form) left)) []
      ++ parts_out j (specs_then (specs_of s.options steps) (draws_of t ++ puts_by cpu left))
      (option_map_or (λ (form : TakenForm). form.ends) left [])

  abbrev pub tally_of : ℕ → List BufferEvent → ℕ → ℕ → Tally
  tally_of j events errors specdrops = record {
    came = record {
      policy = s.options.bufpolicy;
      size = s.options.bufsize;
      reserve = reserve_on account registry s j;
      events = events;
    };
    errors = errors;
    dyndrops = dynamic_drops s.options (steps ++ takes t ∷ []) j;
    specdrops = specdrops;
  }

  -- what came to a processor, by what comes of the clause
  abbrev told : ℕ → Outcome → Tally
  told j outcome = tally_of j
      (comes_by_steps j steps ++ map (λ bytes. attempt bytes in_end) (attempted j (left_in outcome)))
      (errors_after steps j + cond (cpu == j) (cond (is_abandoned outcome) 1 0) 0)
      (spec_drops (specs_of s.options steps) j
      + cond (cpu == j) (count_by (is_dropped cpu drawn) (puts_by cpu (left_in outcome))) 0)

  drops_told : (j : ℕ) → spec_drops (specs_of s.options (steps ++ takes t ∷ [])) j
      ≡ spec_drops (specs_of s.options steps) j
      + cond (cpu == j) (count_by (is_dropped cpu drawn) (puts_by cpu (left_in t.taken.outcome))) 0
  drops_told j =
      no_drop_ended s.options steps t j
      ∙ ap (λ past. spec_drops past j) (sym (events_both (specs_of s.options steps) (draws_of t) (puts_of t)))
      ∙ put_drops drawn cpu j (left_in t.taken.outcome)
      ∙ ap (λ n. n + cond (cpu == j) (count_by (is_dropped cpu drawn) (puts_by cpu (left_in t.taken.outcome))) 0)
      (no_drop_drawn s.options steps t j)

  tally_more : (j : ℕ) → told j t.taken.outcome ≡ tally_after account registry s (steps ++ takes t ∷ []) j
  tally_more j =
      sym (ap₂ (λ errors specdrops. record {
        came = buffer_past_after account registry s (steps ++ takes t ∷ []) j;
        errors = errors;
        dyndrops = dynamic_drops s.options (steps ++ takes t ∷ []) j;
        specdrops = specdrops;
      }) (errors_more steps j (takes t) ∙ ap (λ n. errors_after steps j + n) (faults_of (cpu == j) t)) (drops_told j)
      ∙ ap (λ (came : BufferPast). record {
        came = came;
        errors = errors_after steps j + cond (cpu == j) (cond (is_abandoned t.taken.outcome) 1 0) 0;
        dyndrops = dynamic_drops s.options (steps ++ takes t ∷ []) j;
        specdrops = spec_drops (specs_of s.options steps) j
            + cond (cpu == j) (count_by (is_dropped cpu drawn) (puts_by cpu (left_in t.taken.outcome))) 0;
      }) (buffer_more account registry s steps j (takes t)))

  -- what was assigned is counted already
  abbrev pub known_tally : ℕ → Tally
  known_tally j = tally_of j (comes_by_steps j steps) (errors_after steps j) (spec_drops (specs_of s.options steps) j)

  pub told_is : (j : ℕ) (outcome : Outcome) → t.taken.outcome ≡ outcome
      → told j outcome ≡ tally_after account registry s (steps ++ takes t ∷ []) j
  told_is j outcome e = ap (told j) (sym e) ∙ tally_more j

  -- a clause that was passed over
  pub passed_tally : t.taken.outcome ≡ passed_over → (j : ℕ)
      → known_tally j ≡ tally_after account registry s (steps ++ takes t ∷ []) j
  passed_tally e j = by_place (cpu == j) ∙ told_is j passed_over e
    where
      by_place : (b : Bool) → known_tally j ≡ tally_of j
          (comes_by_steps j steps ++ map (λ bytes. attempt bytes in_end) (cond b [] [] ++ []))
          (errors_after steps j + cond b 0 0) (spec_drops (specs_of s.options steps) j + cond b 0 0)
      by_place true =
          ap (λ events. tally_of j events (errors_after steps j) (spec_drops (specs_of s.options steps) j))
          (sym (append-nil (comes_by_steps j steps)))
          ∙ ap₂ (tally_of j (comes_by_steps j steps ++ [])) (no_more _ true) (no_more _ true)
      by_place false =
          ap (λ events. tally_of j events (errors_after steps j) (spec_drops (specs_of s.options steps) j))
          (sym (append-nil (comes_by_steps j steps)))
          ∙ ap₂ (tally_of j (comes_by_steps j steps ++ [])) (no_more _ false) (no_more _ false)

  -- a clause that was abandoned
  abbrev pub with_error : Tally → Tally
  with_error tally = record {
    came = tally.came;
    errors = tally.errors + 1;
    dyndrops = tally.dyndrops;
    specdrops = tally.specdrops;
  }

  pub abandoned_tally : t.taken.outcome ≡ abandoned → (j : ℕ)
      → changed_at known_tally cpu (with_error (known_tally cpu)) j
      ≡ tally_after account registry s (steps ++ takes t ∷ []) j
  abandoned_tally e j =
      changed_is with_error known_tally cpu j ∙ by_place (cpu == j) ∙ told_is j abandoned e
    where
      by_place : (b : Bool) → cond b (with_error (known_tally j)) (known_tally j) ≡ tally_of j
          (comes_by_steps j steps ++ map (λ bytes. attempt bytes in_end) (cond b [] [] ++ []))
          (errors_after steps j + cond b 1 0) (spec_drops (specs_of s.options steps) j + cond b 0 0)
      by_place true =
          ap (λ events. tally_of j events (errors_after steps j + 1) (spec_drops (specs_of s.options steps) j))
          (sym (append-nil (comes_by_steps j steps)))
          ∙ ap (tally_of j (comes_by_steps j steps ++ []) (errors_after steps j + 1)) (no_more _ true)
      by_place false =
          ap (λ events. tally_of j events (errors_after steps j) (spec_drops (specs_of s.options steps) j))
          (sym (append-nil (comes_by_steps j steps)))
          ∙ ap₂ (tally_of j (comes_by_steps j steps ++ [])) (no_more _ false) (no_more _ false)

  -- a clause that left something
  pub left_tally : (form : TakenForm) → t.taken.outcome ≡ leaves form → (j : ℕ)
      → with_records in_end
      (parts_out j (specs_then (specs_then (specs_of s.options steps) (draws_of t)) (puts_in cpu form)) form.ends)
      (changed_at known_tally cpu
      (with_left in_end cpu (specs_then (specs_of s.options steps) (draws_of t)) form (known_tally cpu)) j)
      ≡ tally_after account registry s (steps ++ takes t ∷ []) j
  left_tally form e j =
      ap₂ (λ past tally. with_records in_end (parts_out j past form.ends) tally)
      (events_both (specs_of s.options steps) (draws_of t) (puts_in cpu form))
      (changed_is (with_left in_end cpu drawn form) known_tally cpu j)
      ∙ by_place (cpu == j) (parts_out j (specs_then (specs_of s.options steps) (draws_of t ++ puts_in cpu form)) form.ends)
      ∙ told_is j (leaves form) e
    where
      by_place : (b : Bool) (parts : List (List ℕ))
          → with_records in_end parts (cond b (with_left in_end cpu drawn form (known_tally j)) (known_tally j))
          ≡ tally_of j
          (comes_by_steps j steps
          ++ map (λ bytes. attempt bytes in_end) (cond b (option_to_list (record_in form)) [] ++ parts))
          (errors_after steps j + cond b 0 0)
          (spec_drops (specs_of s.options steps) j
          + cond b (count_by (is_dropped cpu drawn) (puts_in cpu form)) 0)
      by_place true parts =
          records_both in_end (option_to_list (record_in form)) parts
          (tally_of j (comes_by_steps j steps) (errors_after steps j) (spec_drops (specs_of s.options steps) j
          + count_by (is_dropped cpu drawn) (puts_in cpu form)))
          ∙ ap (λ errors. tally_of j
          (comes_by_steps j steps
          ++ map (λ bytes. attempt bytes in_end) (option_to_list (record_in form) ++ parts)) errors
          (spec_drops (specs_of s.options steps) j + count_by (is_dropped cpu drawn) (puts_in cpu form)))
          (no_more (errors_after steps j) true)
      by_place false parts =
          ap₂ (tally_of j (comes_by_steps j steps ++ map (λ bytes. attempt bytes in_end) parts))
          (no_more _ false) (no_more _ false)

  -- the variables and the speculations after it
  pub locals_more : (locals : Locals) → LocalsAreAt (locals_then (locals_of s.options steps) (assignments_of t)) locals
      → LocalsAreAt (locals_of s.options (steps ++ takes t ∷ [])) locals
  locals_more locals h =
      subst (λ (past : TracingPast). LocalsAreAt past.locals locals) (sym (past_more s.options steps t)) h

  pub specs_more : (specs : Specs) → SpecsAt (specs_then (specs_of s.options steps) (spec_events_of t)) specs
      → SpecsAt (specs_of s.options (steps ++ takes t ∷ [])) specs
  specs_more specs h =
      subst (λ (past : TracingPast). SpecsAt past.specs specs) (sym (past_more s.options steps t)) h

  -- of a clause that left something, draws, what is put, and what is freed
  pub specs_left : (form : TakenForm) → t.taken.outcome ≡ leaves form → (specs : Specs)
      → SpecsAt (specs_then (specs_then (specs_then (specs_of s.options steps) (draws_of t)) (puts_in cpu form))
      (freed_by form.ends)) specs
      → SpecsAt (specs_of s.options (steps ++ takes t ∷ [])) specs
  specs_left form e specs h =
      let past = specs_of s.options steps in
      specs_more specs
      (subst (λ p. SpecsAt p specs)
      (ap (λ p. specs_then p (freed_by form.ends)) (events_both past (draws_of t) (puts_in cpu form))
      ∙ events_both past (draws_of t ++ puts_in cpu form) (freed_by form.ends)
      ∙ ap (λ outcome. specs_then past ((draws_of t ++ puts_by cpu (left_in outcome))
      ++ freed_by (option_map_or (λ (f : TakenForm). f.ends) (left_in outcome) [])))
      (sym e))
      h)

  -- of one that left nothing, draws
  pub specs_drawn : left_in t.taken.outcome ≡ None → (specs : Specs)
      → SpecsAt (specs_then (specs_of s.options steps) (draws_of t)) specs
      → SpecsAt (specs_of s.options (steps ++ takes t ∷ [])) specs
  specs_drawn e specs h =
      let past = specs_of s.options steps in
      specs_more specs
      (subst (λ p. SpecsAt p specs)
      (ap (specs_then past) (sym (append-nil (draws_of t)) ∙ sym (append-nil (draws_of t ++ [])))
      ∙ ap (λ left. specs_then past ((draws_of t ++ puts_by cpu left)
      ++ freed_by (option_map_or (λ (f : TakenForm). f.ends) left [])))
      (sym e))
      h)

  -- nothing of END came before
  pub known_last : (in_end ≡ false → (j : ℕ) → of_end (comes_by_steps j steps) ≡ []) → (j : ℕ)
      → EndLast (known_tally j).came in_end
  known_last none j = λ fill e. none e j

  pub left_last : (form : TakenForm) (past : SpecPast)
      → (in_end ≡ false → (j : ℕ) → of_end (comes_by_steps j steps) ≡ []) → (j : ℕ)
      → EndLast (changed_at known_tally cpu (with_left in_end cpu past form (known_tally cpu)) j).came in_end
  left_last form past none j = by_place (cpu == j)
    where
      by_place : (b : Bool) → EndLast (cond b (with_left in_end cpu past form (known_tally cpu)) (known_tally j)).came in_end
      by_place true = last_on in_end (option_to_list (record_in form)) (known_tally cpu) (known_last none cpu)
      by_place false = known_last none j

  -- what the taking assigned is counted on its processor
  pub known_drops : (before after rose : ℕ) → before ≡ local_drops (locals_of s.options steps)
      → after ≡ local_drops (locals_then (locals_of s.options steps) (assignments_of t)) → rose ≡ after - before
      → dynamic_drops s.options steps cpu + rose ≡ dynamic_drops s.options (steps ++ takes t ∷ []) cpu
  known_drops before after rose e f g =
      let here = dynamic_here s.options steps t cpu (eq-eqb cpu cpu refl) in
      let now : local_drops (locals_of s.options (steps ++ takes t ∷ []))
      ≡ local_drops (locals_then (locals_of s.options steps) (assignments_of t))
      = ap (λ (past : TracingPast). local_drops past.locals) (past_more s.options steps t) in
      let more = drops_grow (assignments_of t) (locals_of s.options steps) in
      omega (arith, here, now, more, e, f, g)

  pub known_set : (all : List Processor) (p q : Processor) (before after rose : ℕ)
      → before ≡ local_drops (locals_of s.options steps)
      → after ≡ local_drops (locals_then (locals_of s.options steps) (assignments_of t)) → rose ≡ after - before
      → cpu < length all → p ≡ get_or all cpu p
      → q.buffer ≡ p.buffer → q.errors ≡ p.errors → q.dyndrops ≡ p.dyndrops + rose → q.specdrops ≡ p.specdrops
      → AreTallied (tally_after account registry s steps) all → AreTallied known_tally (slice_set all cpu q)
  known_set all p q before after rose e f g inside at buffer errors dyndrops specdrops h =
      tallied_set (tally_after account registry s steps) known_tally all cpu p q inside at
      (λ k. record {
        stands = subst (BufferIsAt (buffer_past_after account registry s steps cpu)) (sym buffer) k.stands;
        counted = errors ∙ k.counted;
        dynamic_dropped =
            dyndrops ∙ ap (λ n. n + rose) k.dynamic_dropped ∙ known_drops before after rose e f g;
        speculative_dropped = specdrops ∙ k.speculative_dropped;
      })
      (λ j ne. ap (λ n. record {
        came = buffer_past_after account registry s steps j;
        errors = errors_after steps j;
        dyndrops = n;
        specdrops = spec_drops (specs_of s.options steps) j;
      }) (sym (dynamic_elsewhere s.options steps t j (ne_eqb cpu j (λ e. ne (sym e)))))) h
