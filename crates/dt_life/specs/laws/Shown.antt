-- What a buffer shows of a life is split into records of the layouts.
use Rattle.std.proofs.Common.{◌≡◌, ℕ, zero, suc, ◌==◌, Bool, true, false, cond, List, [], ◌∷◌, ◌++◌, Option, Some, None}
use Rattle.std.proofs.Common.{map, take, drop, refl, sym, ap, subst, ◌∙◌, ◌+◌, append_assoc, if◌then◌else◌}
use Rattle.std.proofs.lemmas.List.{append-nil}
use Rattle.std.specs.List.{AllByRecursion, concat, enumerate_from, flat_map}
use Rattle.std.specs.Option.{is_some, option_and_then, option_to_list}
use Rattle.std.specs.Prelude.{length, nat_le}
use Rattle.dt_buffer.specs.Choice.{chosen_of}
use Rattle.dt_buffer.specs.Ending.{fitting}
use Rattle.dt_buffer.specs.History.{BufferPast, attempt, swap, attempts, is_swapped, of_end, ordinary, since_swap}
use Rattle.dt_buffer.specs.History as buffer
use Rattle.dt_buffer.specs.Shows.{ShownBy, Shows}
use Rattle.dt_buffer.specs.declared.policy.Policy.{Policy}
use Rattle.dt_buffer.specs.declared.policy.Policy.TheVariants.{Switch, Fill, Ring}
use Rattle.dt_cred.specs.declared.account.Account.{Account}
use Rattle.dt_ecb.specs.Ecbs.{EcbForm, added, ecbs_of}
use Rattle.dt_machine.specs.Registry.{Registry}
use Rattle.dt_program.specs.Program.{ClauseForm}
use Rattle.dt_record.specs.Layout.{layout_of}
use Rattle.dt_record.specs.Showing.{IsLeftBy}
use Rattle.dt_record.specs.Split.{IsSplit, RecordForm}
use Rattle.dt_record.specs.laws.Fitting.{left-split}
use Rattle.dt_record.specs.Taking.{SpecEndForm, TakenForm, committed, discarded}
use Rattle.dt_speculation.specs.History.{SpecPast, specs_then}
use Rattle.dt_speculation.specs.Parts.{part_bytes}
use Rattle.dt_life.specs.Buffers.{attempts_to, comes_by, past, records_to}
use Rattle.dt_life.specs.Life.{Item, ecbs, set_up, tracing_steps}
use Rattle.dt_life.specs.Scenes.{IsLifeInBounds}
use Rattle.dt_life.specs.Takings.{Taking, cpu_of, draws_of, ends_of, freed_by, left_by, part_out, parts_committed, parts_out}
use Rattle.dt_life.specs.Takings.{puts_of, record_of}
use Rattle.dt_life.specs.TracingSteps.{TracingStep, takes, reads, truncates}
use Rattle.dt_life.specs.laws.Lists.{map_twice}
use Rattle.dt_speculation.specs.laws.Pieces.{part_pieces}
use Rattle.dt_life.specs.laws.Records.{IsPutOf, IsStepOf, IsTakenOf, all_filtered, all_flat, all_joined, all_where, clause_of}
use Rattle.dt_life.specs.laws.Records.{drawn_and_put_in, freed_in, life_steps, taken_left}

-- some of a list's
all_taken : {A : Type 0} (P : A → Type 0) (n : ℕ) (xs : List A) → AllByRecursion P xs → AllByRecursion P (take n xs)
all_taken P zero xs h = tt
all_taken P (suc n) [] h = tt
all_taken P (suc n) (x ∷ xs) h = (h.0, all_taken P n xs h.1)

all_dropped : {A : Type 0} (P : A → Type 0) (n : ℕ) (xs : List A) → AllByRecursion P xs → AllByRecursion P (drop n xs)
all_dropped P zero xs h = h
all_dropped P (suc n) [] h = tt
all_dropped P (suc n) (x ∷ xs) h = all_dropped P n xs h.1

joined_bytes : (xs : List (List ℕ)) → flat_map (λ piece. piece) xs ≡ concat xs
joined_bytes [] = refl
joined_bytes (x ∷ xs) = ap (λ rest. x ++ rest) (joined_bytes xs)

flat_joined : (xs ys : List (List ℕ)) → concat xs ++ concat ys ≡ concat (xs ++ ys)
flat_joined [] ys = refl
flat_joined (x ∷ xs) ys = append_assoc x (concat xs) (concat ys) ∙ ap (λ rest. x ++ rest) (flat_joined xs ys)

module _ (P : List ℕ → Type 0) where
  -- the bytes are pieces that are so
  abbrev ArePieces : List ℕ → Type 0
  ArePieces bytes = (pieces : List (List ℕ)) × AllByRecursion P pieces × (bytes ≡ concat pieces)

  piece_one : (bytes : List ℕ) → P bytes → ArePieces bytes
  piece_one bytes h = (bytes ∷ [], (h, tt), sym (append-nil bytes))

  -- pieces that are made of such pieces
  pieces_joined : (pieces : List (List ℕ)) → AllByRecursion ArePieces pieces → ArePieces (concat pieces)
  pieces_joined [] h = ([], tt, refl)
  pieces_joined (piece ∷ pieces) h =
      let later = pieces_joined pieces h.1 in (
        h.0.0 ++ later.0,
        all_joined P h.0.0 later.0 h.0.1 later.1,
        ap (λ a. a ++ concat pieces) h.0.2 ∙ ap (λ b. concat h.0.0 ++ b) later.2 ∙ flat_joined h.0.0 later.0,
      )

  -- what was put is so
  abbrev IsAttemptSo : buffer.BufferEvent → Type 0
  IsAttemptSo (attempt bytes in_end) = P bytes
  IsAttemptSo swap = Unit {0}

  all_attempts : (events : List buffer.BufferEvent) → AllByRecursion IsAttemptSo events → AllByRecursion P (attempts events)
  all_attempts [] h = tt
  all_attempts (attempt bytes in_end ∷ later) h = (h.0, all_attempts later h.1)
  all_attempts (swap ∷ later) h = all_attempts later h.1

  all_of_end : (events : List buffer.BufferEvent) → AllByRecursion IsAttemptSo events → AllByRecursion P (of_end events)
  all_of_end [] h = tt
  all_of_end (attempt bytes true ∷ later) h = (h.0, all_of_end later h.1)
  all_of_end (attempt bytes false ∷ later) h = all_of_end later h.1
  all_of_end (swap ∷ later) h = all_of_end later h.1

  all_ordinary : (events : List buffer.BufferEvent) → AllByRecursion IsAttemptSo events → AllByRecursion P (ordinary events)
  all_ordinary [] h = tt
  all_ordinary (attempt bytes true ∷ later) h = all_ordinary later h.1
  all_ordinary (attempt bytes false ∷ later) h = (h.0, all_ordinary later h.1)
  all_ordinary (swap ∷ later) h = all_ordinary later h.1

  one_or_later : (b : Bool) (bytes : List ℕ) (later : List (List ℕ)) → P bytes → AllByRecursion P later
      → AllByRecursion P (cond b later (bytes ∷ later))
  one_or_later true bytes later h k = k
  one_or_later false bytes later h k = (h, k)

  all_since : (events : List buffer.BufferEvent) → AllByRecursion IsAttemptSo events → AllByRecursion P (since_swap events)
  all_since [] h = tt
  all_since (attempt bytes in_end ∷ later) h =
      one_or_later (is_swapped later) bytes (since_swap later) h.0 (all_since later h.1)
  all_since (swap ∷ later) h = all_since later h.1

  all_chosen : (records : List (List ℕ)) (chosen : List Bool) → AllByRecursion P records
      → AllByRecursion P (chosen_of records chosen)
  all_chosen [] chosen h = tt
  all_chosen (record_bytes ∷ records) [] h = tt
  all_chosen (record_bytes ∷ records) (true ∷ chosen) h = (h.0, all_chosen records chosen h.1)
  all_chosen (record_bytes ∷ records) (false ∷ chosen) h = all_chosen records chosen h.1

  shown_by : (past : BufferPast) (policy : Policy) (bytes : List ℕ) (drops : ℕ) (filled : Bool)
      → AllByRecursion IsAttemptSo past.events → ShownBy past policy bytes drops filled → ArePieces bytes
  shown_by past Switch bytes drops filled h shows =
      let records = since_swap past.events in
      (chosen_of records shows.0.chosen, all_chosen records shows.0.chosen (all_since past.events h), shows.0.kept)
  shown_by past Fill bytes drops filled h shows =
      let first = take shows.0.first (ordinary past.events) in
      let last = take shows.0.last (of_end past.events) in (
        first ++ last,
        all_joined P first last (all_taken P shows.0.first (ordinary past.events) (all_ordinary past.events h))
            (all_taken P shows.0.last (of_end past.events) (all_of_end past.events h)),
        shows.0.kept ∙ flat_joined first last,
      )
  shown_by past Ring bytes drops filled h shows =
      let records = fitting past.size (attempts past.events) in (
        drop shows.0.passed records,
        all_dropped P shows.0.passed records
            (all_filtered P (λ bytes. nat_le (length bytes) past.size) (attempts past.events) (all_attempts past.events h)),
        shows.0.kept,
      )

  -- what is attempted
  attempted : (in_end : Bool) (records : List (List ℕ)) → AllByRecursion P records
      → AllByRecursion IsAttemptSo (map (λ bytes. attempt bytes in_end) records)
  attempted in_end [] h = tt
  attempted in_end (bytes ∷ records) h = (h.0, attempted in_end records h.1)

  swapped : (b : Bool) → AllByRecursion IsAttemptSo (cond b (swap ∷ []) [])
  swapped true = (tt, tt)
  swapped false = tt

-- an attempt is made of records that clauses left, one after another
abbrev IsAttempt : List ClauseForm → List ℕ → Type 0
IsAttempt clauses bytes = ArePieces (IsLeftBy clauses) bytes

module _ (clauses : List ClauseForm) (t : Taking) (is : IsTakenOf clauses t) (cpu : ℕ) where
  -- its own record
  own_record : (id : Option ℕ) (left : TakenForm) (o : Option (List ℕ)) → left_by t ≡ Some left → left.record_bytes ≡ o
      → AllByRecursion (IsAttempt clauses) (option_to_list (if is_some id then None else o))
  own_record (Some id) left o is_left e = tt
  own_record None left None is_left e = tt
  own_record None left (Some bytes) is_left e =
      (piece_one (IsLeftBy clauses) bytes (taken_left clauses t is left bytes is_left e), tt)

  own_by : (o : Option TakenForm) → left_by t ≡ o → AllByRecursion (IsAttempt clauses) (option_to_list
      (option_and_then (λ (form : TakenForm). if is_some form.spec then None else form.record_bytes) o))
  own_by None e = tt
  own_by (Some left) e = own_record left.spec left left.record_bytes e refl

  -- the parts that it commits
  out_where : (b : Bool) (bytes : List ℕ) → IsAttempt clauses bytes
      → AllByRecursion (IsAttempt clauses) (cond b [] (bytes ∷ []))
  out_where true bytes h = tt
  out_where false bytes h = (h, tt)

  out_by : (specs : SpecPast) → AllByRecursion (IsPutOf clauses) specs.events → (end : SpecEndForm)
      → AllByRecursion (IsAttempt clauses) (part_out cpu specs end)
  out_by specs puts (committed id) =
      out_where (length (part_bytes specs id cpu) == 0) (part_bytes specs id cpu)
      (part_pieces (IsLeftBy clauses) specs id cpu puts)
  out_by specs puts (discarded id) = tt

  -- the speculations after its draws and its own record
  abbrev specs : SpecPast
  specs = specs_then t.past.specs (draws_of t ++ puts_of t)

  specs_in : AllByRecursion (IsPutOf clauses) t.past.specs.events → AllByRecursion (IsPutOf clauses) specs.events
  specs_in puts = all_joined (IsPutOf clauses) t.past.specs.events (draws_of t ++ puts_of t) puts
      (drawn_and_put_in clauses t is)

  parts_in : AllByRecursion (IsPutOf clauses) t.past.specs.events → (ends : List SpecEndForm)
      → AllByRecursion (IsAttempt clauses) (parts_out cpu specs ends)
  parts_in puts ends =
      all_flat (λ (one : ℕ × SpecEndForm). Unit {0}) (IsAttempt clauses)
      (λ (one : ℕ × SpecEndForm). part_out cpu (specs_then specs (freed_by (take one.0 ends))) one.1)
      (λ one h. out_by (specs_then specs (freed_by (take one.0 ends)))
      (all_joined (IsPutOf clauses) specs.events (freed_by (take one.0 ends)) (specs_in puts)
      (freed_in clauses t is (take one.0 ends))) one.1)
      (enumerate_from 0 ends) (every (enumerate_from 0 ends))
    where
      every : (xs : List (ℕ × SpecEndForm)) → AllByRecursion (λ (one : ℕ × SpecEndForm). Unit {0}) xs
      every [] = tt
      every (x ∷ xs) = (tt, every xs)

  -- all that it attempts on a processor
  pub taking_attempts : AllByRecursion (IsPutOf clauses) t.past.specs.events
      → AllByRecursion (IsAttemptSo (IsAttempt clauses)) (attempts_to cpu t)
  taking_attempts puts =
      attempted (IsAttempt clauses) t.in_end (records_to cpu t)
      (all_joined (IsAttempt clauses) (cond (cpu_of t == cpu) (option_to_list (record_of t)) []) (parts_committed cpu t)
      (all_where (IsAttempt clauses) (cpu_of t == cpu) (option_to_list (record_of t)) (own_by (left_by t) refl))
      (parts_in puts (ends_of t)))

module _ (account : Account) (registry : Registry)
    (go_on : (before clauses : List ClauseForm) → ecbs_of account registry (before ++ clauses)
    ≡ ecbs_of account registry before ++ added account registry (length (ecbs_of account registry before) + 1) clauses)
    (life : List Item) (is : IsLifeInBounds account registry life) (cpu : ℕ) where
  abbrev clauses : List ClauseForm
  clauses = map clause_of (ecbs account registry life)

  abbrev IsCome : buffer.BufferEvent → Type 0
  IsCome event = IsAttemptSo (IsAttempt clauses) event

  come_by : (step : TracingStep) → IsStepOf clauses step → AllByRecursion IsCome (comes_by cpu step)
  come_by (takes t) h = taking_attempts clauses t h cpu
      (subst (λ (x : Taking). AllByRecursion (IsPutOf clauses) x.past.specs.events) (sym h.same) h.past_is.puts)
  come_by (reads n) h = swapped (IsAttempt clauses) (n == cpu)
  come_by (truncates name) h = tt

  all_come : AllByRecursion IsCome (past account registry life cpu).events
  all_come =
      all_flat (IsStepOf clauses) IsCome (comes_by cpu) come_by
      (tracing_steps account registry (set_up account registry life))
      (life_steps account registry go_on life is).each

  -- the bytes that a buffer shows
  pub shown_split : (bytes : List ℕ) (drops : ℕ) (filled : Bool) → Shows (past account registry life cpu) bytes drops filled
      → (records : List RecordForm)
      × IsSplit (map (λ (ecb : EcbForm). layout_of ecb.clause) (ecbs account registry life)) bytes records
  shown_split bytes drops filled shows =
      let attempted = shown_by (IsAttempt clauses) (past account registry life cpu)
      (past account registry life cpu).policy bytes drops filled all_come shows in
      let pieces = pieces_joined (IsLeftBy clauses) attempted.0 attempted.1 in
      let whole : flat_map (λ piece. piece) pieces.0 ≡ bytes = joined_bytes pieces.0 ∙ sym pieces.2 ∙ sym attempted.2 in
      let found = left-split clauses pieces.0 pieces.1 in (
        found.0,
        subst (λ layouts. IsSplit layouts bytes found.0) (map_twice clause_of layout_of (ecbs account registry life))
            (subst (λ b. IsSplit (map layout_of clauses) b found.0) whole found.1),
      )
