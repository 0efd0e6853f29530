-- The buffers at the end of a past, and one event more.
use Rattle.std.proofs.Common.{◌≡◌, ◌≢◌, ℕ, ◌+◌, ◌-◌, ◌<◌, ◌≤◌, ◌⊎◌, Bool, true, false, List, [], ◌∷◌, ◌++◌, length, get_or, set}
use Rattle.std.proofs.Common.{refl, sym, ap, ◌∙◌, subst, inl, inr, ⊎_elim, if◌then◌else◌, Option, None, Some, arith}
use Rattle.std.specs.List.{All, slice_get}
use Rattle.std.specs.Option.{MatchOption}
use Rattle.std.proofs.lemmas.Bool.{cases_lt, cases_eq, ne_eqb}
use Rattle.std.proofs.lemmas.List.{length-set}
use Rattle.std.proofs.lemmas.Option.{slice_get_cases}
use Rattle.dt_buffer.specs.Choice.{KeepsSwitch}
use Rattle.dt_speculation.specs.Answers.{AllInUse, DrawAnswers, PutSays, SpecPutAnswers, failed_draws}
use Rattle.dt_speculation.specs.History.{SpecEvent, SpecPast, draw, put_under, free, new_spec_past, spec_after}
use Rattle.dt_speculation.specs.IsAt.{IsFirstFree, SpeculationIsAt, SpecsAt}
use Rattle.dt_speculation.specs.Records.{HasPart, KeepsPart, ShowsPart, put_to, records_of}
use Rattle.dt_speculation.specs.Uses.{is_in_use}
use Rattle.dt_speculation.specs.laws.Steps.{answered_more, draw_records, draw_use, drawn_records, drawn_use, failed_draws-more, free_own, free_records, free_use, gives_none, gives_other, put_other, put_own, put_use, records_unused, zero_unused}
use Rattle.dt_speculation.specs.declared.answer.SpecPut.{SpecPut}
use Rattle.dt_speculation.specs.declared.answer.SpecPut.TheVariants.{Unknown}
use Rattle.dt_speculation.specs.declared.speculation.Speculation.{Speculation}
use Rattle.dt_speculation.specs.declared.speculations.Specs.{Specs}
use Rattle.dt_speculation.proofs.Places.{match_map, found_there, nothing_there, from_nothing, replaced, at_each}
use Rattle.dt_speculation.proofs.Uses.{same_speculation, says_unknown, none_shown}

-- what holds of a place after a past
abbrev At : SpecPast → ℕ → Option Speculation → Type 0
At past place o =
    MatchOption o (is_in_use (place + 1) past.events ≡ false)
    (SpeculationIsAt past.specsize (is_in_use (place + 1) past.events) (λ cpu. records_of (place + 1) cpu past.events))

-- Nothing came.
pub specs_none : (nspec specsize : ℕ) (specs : Specs) → length specs.all.items ≡ nspec → specs.fails ≡ 0
    → All (SpeculationIsAt specsize false (λ cpu. [])) specs.all.items → SpecsAt (new_spec_past nspec specsize) specs
specs_none nspec specsize specs same none all = record {
  many = same;
  each = at_each (λ place. is_in_use (place + 1) [] ≡ false) (SpeculationIsAt specsize false (λ cpu. [])) specs.all.items all
      (λ place. refl);
  failed = none;
  answered = λ earlier later answer split. absurd (nothing_split earlier later (draw answer) split);
}
  where
    nothing_split : (earlier later : List SpecEvent) (one : SpecEvent) → [] ≡ earlier ++ one ∷ later → ⊥
    nothing_split [] later one e = cc
    nothing_split (x ∷ earlier) later one e = cc

module _ (past : SpecPast) (old : Specs) (s : SpecsAt past old) where
  -- an identifier's place says whether it is in use
  pub use_at : (place : ℕ) (one : Speculation) → place < length old.all.items → one ≡ get_or old.all.items place one
      → one.in_use ≡ is_in_use (place + 1) past.events
  use_at place one inside is =
      (found_there (is_in_use (place + 1) past.events ≡ false)
      (SpeculationIsAt past.specsize (is_in_use (place + 1) past.events) (λ cpu. records_of (place + 1) cpu past.events))
      old.all.items place one inside is (s.each place)).same_use

  -- and what its parts hold
  pub there : (place : ℕ) (one : Speculation) → place < length old.all.items → one ≡ get_or old.all.items place one
      → SpeculationIsAt past.specsize (is_in_use (place + 1) past.events) (λ cpu. records_of (place + 1) cpu past.events) one
  there place one inside is =
      found_there (is_in_use (place + 1) past.events ≡ false)
      (SpeculationIsAt past.specsize (is_in_use (place + 1) past.events) (λ cpu. records_of (place + 1) cpu past.events))
      old.all.items place one inside is (s.each place)

  -- what is no identifier isn't in use
  pub nowhere_unused : (id : ℕ) → (id ≡ 0) ⊎ (length old.all.items < id) → is_in_use id past.events ≡ false
  nowhere_unused id none = ⊎_elim
      (λ (e : id ≡ 0). subst (λ n. is_in_use n past.events ≡ false) (sym e) (zero_unused past.events))
      (λ (h : length old.all.items < id).
      let back : (id - 1) + 1 ≡ id = omega arith in
      subst (λ n. is_in_use n past.events ≡ false) back
      (nothing_there (is_in_use ((id - 1) + 1) past.events ≡ false)
      (SpeculationIsAt past.specsize (is_in_use ((id - 1) + 1) past.events) (λ cpu. records_of ((id - 1) + 1) cpu past.events))
      old.all.items (id - 1) (omega arith) (s.each (id - 1))))
      none

  -- One event that concerns one identifier.
  module _ (event : SpecEvent) (new : Specs) (id : ℕ)
      (others : (n : ℕ) → n ≢ id → (is_in_use n (past.events ++ event ∷ []) ≡ is_in_use n past.events)
      × ((cpu : ℕ) → records_of n cpu (past.events ++ event ∷ []) ≡ records_of n cpu past.events)) where
    at_other : (place : ℕ) → place + 1 ≢ id → At (spec_after past event) place (slice_get old.all.items place)
    at_other place ne =
        let same = others (place + 1) ne in
        match_map (is_in_use (place + 1) past.events ≡ false) (is_in_use (place + 1) (past.events ++ event ∷ []) ≡ false)
        (SpeculationIsAt past.specsize (is_in_use (place + 1) past.events) (λ cpu. records_of (place + 1) cpu past.events))
        (SpeculationIsAt past.specsize (is_in_use (place + 1) (past.events ++ event ∷ []))
        (λ cpu. records_of (place + 1) cpu (past.events ++ event ∷ [])))
        (slice_get old.all.items place) (λ e. same.0 ∙ e)
        (λ one h. same_speculation past.specsize (is_in_use (place + 1) past.events)
        (is_in_use (place + 1) (past.events ++ event ∷ [])) (λ cpu. records_of (place + 1) cpu past.events)
        (λ cpu. records_of (place + 1) cpu (past.events ++ event ∷ [])) one (sym same.0) (λ cpu. sym (same.1 cpu)) h)
        (s.each place)

    -- which isn't one of those that there are
    step_nowhere : new.all.items ≡ old.all.items → (id ≡ 0) ⊎ (length old.all.items < id)
        → ((n : ℕ) → is_in_use n past.events ≡ false → is_in_use n (past.events ++ event ∷ []) ≡ false)
        → (place : ℕ) → At (spec_after past event) place (slice_get new.all.items place)
    step_nowhere same none unbegun place =
        subst (λ xs. At (spec_after past event) place (slice_get xs place)) (sym same) (⊎_elim
        (λ (inside : place < length old.all.items). at_other place (λ e. ⊎_elim
        (λ (z : id ≡ 0). absurd (omega arith))
        (λ (h : length old.all.items < id). absurd (omega arith))
        none))
        (λ (past_all : length old.all.items ≤ place).
        from_nothing (is_in_use (place + 1) (past.events ++ event ∷ []) ≡ false)
        (SpeculationIsAt past.specsize (is_in_use (place + 1) (past.events ++ event ∷ []))
        (λ cpu. records_of (place + 1) cpu (past.events ++ event ∷ [])))
        old.all.items place past_all
        (unbegun (place + 1) (nothing_there (is_in_use (place + 1) past.events ≡ false)
        (SpeculationIsAt past.specsize (is_in_use (place + 1) past.events) (λ cpu. records_of (place + 1) cpu past.events))
        old.all.items place past_all (s.each place))))
        (cases_lt place (length old.all.items)))

    -- which is at a place
    step_there : (at : ℕ) (one : Speculation) → new.all.items ≡ set old.all.items at one → id ≡ at + 1
        → at < length old.all.items
        → SpeculationIsAt past.specsize (is_in_use (at + 1) (past.events ++ event ∷ []))
        (λ cpu. records_of (at + 1) cpu (past.events ++ event ∷ [])) one
        → (place : ℕ) → At (spec_after past event) place (slice_get new.all.items place)
    step_there at one put is inside here =
        subst (λ xs. (place : ℕ) → At (spec_after past event) place (slice_get xs place)) (sym put)
        (replaced (λ place. is_in_use (place + 1) (past.events ++ event ∷ []) ≡ false)
        (λ place. SpeculationIsAt past.specsize (is_in_use (place + 1) (past.events ++ event ∷ []))
        (λ cpu. records_of (place + 1) cpu (past.events ++ event ∷ [])))
        old.all.items at one inside here
        (λ place ne. at_other place (λ e. ne (omega arith))))

  -- A draw
  draw_others : (answer n : ℕ) → n ≢ answer → (is_in_use n (past.events ++ draw answer ∷ []) ≡ is_in_use n past.events)
      × ((cpu : ℕ) → records_of n cpu (past.events ++ draw answer ∷ []) ≡ records_of n cpu past.events)
  draw_others answer n ne =
      let other = gives_other n answer (λ e. ne (sym e)) in
      (draw_use n past.events answer other, λ cpu. draw_records n past.events answer cpu other)

  is_draw : (a b : ℕ) → draw a ≡ draw b → a ≡ b
  is_draw a b e = cc

  -- what a place tells, read from the list
  use_of : (place : ℕ) (used : Bool) → place < length old.all.items
      → ((d : Speculation) → (get_or old.all.items place d).in_use ≡ used) → is_in_use (place + 1) past.events ≡ used
  use_of place used inside told = ⊎_elim
      (λ (found : (x : Speculation) × (place < length old.all.items) × (slice_get old.all.items place ≡ Some x)
      × (get_or old.all.items place x ≡ x)).
      sym (use_at place found.0 inside (sym found.3)) ∙ ap (λ (one : Speculation). one.in_use) (sym found.3) ∙ told found.0)
      (λ (none : (length old.all.items ≤ place) × (slice_get old.all.items place ≡ None)). absurd (omega (arith, none.0)))
      (slice_get_cases old.all.items place).1

  -- a draw where all are in use
  all_in_use : All (λ one. one.in_use ≡ true) old.all.items → AllInUse past.nspec past.events
  all_in_use used n from to =
      let back : (n - 1) + 1 ≡ n = omega arith in
      let inside : n - 1 < length old.all.items = omega (arith, s.many) in
      subst (λ m. is_in_use m past.events ≡ true) back (use_of (n - 1) true inside (λ d. used (n - 1) d inside))

  pub draw_none : All (λ one. one.in_use ≡ true) old.all.items → DrawAnswers past.nspec past.events 0
  draw_none used = inr (refl, all_in_use used)

  pub draw_failed : (new : Specs) → new.all.items ≡ old.all.items → new.fails ≡ old.fails + 1
      → All (λ one. one.in_use ≡ true) old.all.items → SpecsAt (spec_after past (draw 0)) new
  draw_failed new same more used = record {
    many = ap length same ∙ s.many;
    each = step_nowhere (draw 0) new 0 (draw_others 0) same (inl refl)
        (λ n e. draw_use n past.events 0 (gives_none n) ∙ e);
    failed = more ∙ ap (λ n. n + 1) s.failed ∙ sym (failed_draws-more past.events (draw 0));
    answered = answered_more past (draw 0) s.answered
        (λ answer e. subst (λ n. DrawAnswers past.nspec past.events n) (is_draw 0 answer e) (draw_none used));
  }

  -- a draw where one isn't
  module _ (place : ℕ) (first : IsFirstFree old.all.items place) where
    pub draw_some : DrawAnswers past.nspec past.events (place + 1)
    draw_some = inl (record {
      from = omega arith;
      to = omega (arith, first.inside, s.many);
      free_now = use_of place false first.inside first.free_there;
      least = λ n from below.
          let back : (n - 1) + 1 ≡ n = omega arith in
          let inside : n - 1 < length old.all.items = omega (arith, first.inside) in
          let before : n - 1 < place = omega arith in
          subst (λ m. is_in_use m past.events ≡ true) back (use_of (n - 1) true inside (λ d. first.taken (n - 1) d before));
    })

    pub draw_given : (new : Specs) (p q : Speculation) → p ≡ get_or old.all.items place p
        → new.all.items ≡ set old.all.items place q → new.fails ≡ old.fails
        → ((size : ℕ) (used : Bool) (records : ℕ → List (List ℕ)) → SpeculationIsAt size used records p
        → SpeculationIsAt size true records q)
        → SpecsAt (spec_after past (draw (place + 1))) new
    draw_given new p q is put fails begun =
        let unused = use_of place false first.inside first.free_there in
        record {
          many = ap length put ∙ length-set old.all.items place q ∙ s.many;
          each = step_there (draw (place + 1)) new (place + 1) (draw_others (place + 1)) place q put refl first.inside
              (same_speculation past.specsize true (is_in_use (place + 1) (past.events ++ draw (place + 1) ∷ []))
              (λ cpu. records_of (place + 1) cpu past.events)
              (λ cpu. records_of (place + 1) cpu (past.events ++ draw (place + 1) ∷ [])) q
              (sym (drawn_use (place + 1) past.events (omega arith)))
              (λ cpu. records_unused (place + 1) cpu past.events unused
              ∙ sym (drawn_records (place + 1) past.events cpu (omega arith)))
              (begun past.specsize (is_in_use (place + 1) past.events) (λ cpu. records_of (place + 1) cpu past.events)
              (there place p first.inside is)));
          failed = fails ∙ s.failed ∙ sym (failed_draws-more past.events (draw (place + 1)) ∙ none_failed (place + 1) (omega arith));
          answered = answered_more past (draw (place + 1)) s.answered
              (λ answer e. subst (λ n. DrawAnswers past.nspec past.events n) (is_draw (place + 1) answer e) draw_some);
        }
      where
        none_failed : (answer : ℕ) → 1 ≤ answer
            → failed_draws past.events + failed_draws (draw answer ∷ []) ≡ failed_draws past.events
        none_failed answer h = rw (ne_eqb answer 0 (λ e. absurd (omega arith))) (omega arith)

  -- A put
  put_others : (id at : ℕ) (bytes : List ℕ) (n : ℕ) → n ≢ id
      → (is_in_use n (past.events ++ put_under id at bytes ∷ []) ≡ is_in_use n past.events)
      × ((cpu : ℕ) → records_of n cpu (past.events ++ put_under id at bytes ∷ []) ≡ records_of n cpu past.events)
  put_others id at bytes n ne =
      (put_use n past.events id at bytes, λ cpu. put_other n past.events id at cpu bytes (λ e. ne (sym e)))

  module _ (id cpu : ℕ) (bytes : List ℕ) where
    put_many : (new : Specs) → length new.all.items ≡ length old.all.items → new.fails ≡ old.fails
        → ((place : ℕ) → At (spec_after past (put_under id cpu bytes)) place (slice_get new.all.items place))
        → SpecsAt (spec_after past (put_under id cpu bytes)) new
    put_many new same fails each = record {
      many = same ∙ s.many;
      each = each;
      failed = omega (arith, fails, s.failed, failed_draws-more past.events (put_under id cpu bytes));
      answered = answered_more past (put_under id cpu bytes) s.answered (λ answer e. cc);
    }

    -- under what is no identifier
    pub put_nowhere : (id ≡ 0) ⊎ (length old.all.items < id) → SpecsAt (spec_after past (put_under id cpu bytes)) old
    put_nowhere none =
        put_many old refl refl
        (step_nowhere (put_under id cpu bytes) old id (put_others id cpu bytes) refl none
        (λ n e. put_use n past.events id cpu bytes ∙ e))

    pub put_unknown : (id ≡ 0) ⊎ (length old.all.items < id) → SpecPutAnswers past id cpu bytes Unknown
    put_unknown none =
        says_unknown (is_in_use id past.events) (KeepsPart past id cpu bytes) (nowhere_unused id none)

    -- under one
    module _ (place : ℕ) (is_id : id ≡ place + 1) (inside : place < length old.all.items) (p q : Speculation)
        (is : p ≡ get_or old.all.items place p) where
      pub put_somewhere : (new : Specs) → new.all.items ≡ set old.all.items place q → new.fails ≡ old.fails
          → ((size : ℕ) (used : Bool) (records : ℕ → List (List ℕ)) → SpeculationIsAt size used records p
          → SpeculationIsAt size used (if used then put_to cpu bytes records else records) q)
          → SpecsAt (spec_after past (put_under id cpu bytes)) new
      put_somewhere new put fails step =
          let e = put_under id cpu bytes in
          put_many new (ap length put ∙ length-set old.all.items place q) fails
          (step_there e new id (put_others id cpu bytes) place q put is_id inside
          (same_speculation past.specsize (is_in_use (place + 1) past.events) (is_in_use (place + 1) (past.events ++ e ∷ []))
          (if is_in_use (place + 1) past.events then put_to cpu bytes (λ c. records_of (place + 1) c past.events)
          else (λ c. records_of (place + 1) c past.events))
          (λ c. records_of (place + 1) c (past.events ++ e ∷ [])) q
          (sym (put_use (place + 1) past.events id cpu bytes))
          (λ c. subst (λ n. (if is_in_use (place + 1) past.events then put_to cpu bytes (λ c. records_of (place + 1) c past.events)
          else (λ c. records_of (place + 1) c past.events)) c
          ≡ records_of (place + 1) c (past.events ++ put_under n cpu bytes ∷ [])) (sym is_id)
          (sym (put_own (place + 1) past.events cpu c bytes)))
          (step past.specsize (is_in_use (place + 1) past.events) (λ c. records_of (place + 1) c past.events)
          (there place p inside is))))

      pub put_said : (answer : SpecPut)
          → ((size : ℕ) (used : Bool) (records : ℕ → List (List ℕ)) → SpeculationIsAt size used records p
          → PutSays used (KeepsSwitch size (records cpu) bytes) answer)
          → SpecPutAnswers past id cpu bytes answer
      put_said answer says =
          subst (λ n. SpecPutAnswers past n cpu bytes answer) (sym is_id)
          (says past.specsize (is_in_use (place + 1) past.events) (λ c. records_of (place + 1) c past.events)
          (there place p inside is))

  -- What a part shows.
  pub part_nowhere : (id cpu : ℕ) → (id ≡ 0) ⊎ (length old.all.items < id) → HasPart past id cpu []
  part_nowhere id cpu none =
      none_shown past.specsize (records_of id cpu past.events)
      (records_unused id cpu past.events (nowhere_unused id none))

  pub part_somewhere : (id cpu place : ℕ) (p : Speculation) (bytes : List ℕ) → id ≡ place + 1
      → place < length old.all.items → p ≡ get_or old.all.items place p
      → ((size : ℕ) (used : Bool) (records : ℕ → List (List ℕ)) → SpeculationIsAt size used records p
      → ShowsPart size (records cpu) bytes)
      → HasPart past id cpu bytes
  part_somewhere id cpu place p bytes is_id inside is shows =
      subst (λ n. HasPart past n cpu bytes) (sym is_id)
      (shows past.specsize (is_in_use (place + 1) past.events) (λ c. records_of (place + 1) c past.events)
      (there place p inside is))

  -- A free
  free_others : (id n : ℕ) → n ≢ id → (is_in_use n (past.events ++ free id ∷ []) ≡ is_in_use n past.events)
      × ((cpu : ℕ) → records_of n cpu (past.events ++ free id ∷ []) ≡ records_of n cpu past.events)
  free_others id n ne =
      (free_use n past.events id (λ e. ne (sym e)), λ cpu. free_records n past.events id cpu (λ e. ne (sym e)))

  free_ends : (id n : ℕ) → is_in_use n past.events ≡ false → is_in_use n (past.events ++ free id ∷ []) ≡ false
  free_ends id n e = ⊎_elim
      (λ (same : id ≡ n). subst (λ m. is_in_use n (past.events ++ free m ∷ []) ≡ false) (sym same) (free_own n past.events))
      (λ (ne : id ≡ n → ⊥). free_use n past.events id ne ∙ e)
      (cases_eq id n)

  module _ (id : ℕ) where
    free_many : (new : Specs) → length new.all.items ≡ length old.all.items → new.fails ≡ old.fails
        → ((place : ℕ) → At (spec_after past (free id)) place (slice_get new.all.items place))
        → SpecsAt (spec_after past (free id)) new
    free_many new same fails each = record {
      many = same ∙ s.many;
      each = each;
      failed = omega (arith, fails, s.failed, failed_draws-more past.events (free id));
      answered = answered_more past (free id) s.answered (λ answer e. cc);
    }

    pub free_nowhere : (id ≡ 0) ⊎ (length old.all.items < id) → SpecsAt (spec_after past (free id)) old
    free_nowhere none =
        free_many old refl refl (step_nowhere (free id) old id (free_others id) refl none (free_ends id))

    pub free_somewhere : (new : Specs) (place : ℕ) (p q : Speculation) → id ≡ place + 1 → place < length old.all.items
        → p ≡ get_or old.all.items place p → new.all.items ≡ set old.all.items place q → new.fails ≡ old.fails
        → ((size : ℕ) (used : Bool) (records : ℕ → List (List ℕ)) → SpeculationIsAt size used records p
        → SpeculationIsAt size false (λ cpu. []) q)
        → SpecsAt (spec_after past (free id)) new
    free_somewhere new place p q is_id inside is put fails ended =
        let own : is_in_use (place + 1) (past.events ++ free id ∷ []) ≡ false =
        subst (λ n. is_in_use (place + 1) (past.events ++ free n ∷ []) ≡ false) (sym is_id) (free_own (place + 1) past.events) in
        free_many new (ap length put ∙ length-set old.all.items place q) fails
        (step_there (free id) new id (free_others id) place q put is_id inside
        (same_speculation past.specsize false (is_in_use (place + 1) (past.events ++ free id ∷ [])) (λ cpu. [])
        (λ cpu. records_of (place + 1) cpu (past.events ++ free id ∷ [])) q (sym own)
        (λ cpu. sym (records_unused (place + 1) cpu (past.events ++ free id ∷ []) own))
        (ended past.specsize (is_in_use (place + 1) past.events) (λ cpu. records_of (place + 1) cpu past.events)
        (there place p inside is))))
