-- What a consumer has from `go` on, as more happens.
use Rattle.std.proofs.Common.{◌≡◌, ℕ, ℤ, ◌+◌, ◌<◌, ◌==◌, ◌&&◌, Bool, true, false, cond, List, [], ◌∷◌, Option, Some}
use Rattle.std.proofs.Common.{length, get_or, filter, map, refl, sym, ap, ◌∙◌, subst, arith}
use Rattle.std.specs.List.{slice_get, All}
use Rattle.std.proofs.lemmas.List.Elements.{All-filter, All-get_or, All-map}
use Rattle.std.proofs.lemmas.Option.{slice_get-get_or}
use Rattle.std.specs.Option.{IfSome, IsSomeAnd}
use Rattle.dt_buffer.specs.History.{of_end}
use Rattle.dt_cred.specs.declared.account.Account.{Account}
use Rattle.dt_machine.specs.Registry.{Registry}
use Rattle.dt_lang.specs.Program.{ClauseForm}
use Rattle.dt_ecb.specs.Ecbs.{EcbForm, of_probe}
use Rattle.dt_ecb.specs.Forms.{form_of_ecb}
use Rattle.dt_ecb.specs.declared.parts.Ecb.{Ecb}
use Rattle.dt_life.specs.Buffers.{past_in, reserve_on}
use Rattle.dt_life.specs.Placed.{AreEcbs, placed_after}
use Rattle.dt_life.specs.Following.{takings_by}
use Rattle.dt_life.specs.Life.{SetUp, ecbs_in, end_size, since_then, tracing_steps, with_event}
use Rattle.dt_life.specs.Options.{OptionsForm, is_fill}
use Rattle.dt_life.specs.Takings.{TracingEvent, ended, is_end, first_exit, context_at, own_context}
use Rattle.dt_life.specs.TracingSteps.{TracingStep, steps_and, taken_at, taken_by, takings_of}
use Rattle.dt_machine.specs.Context.{ContextForm}
use Rattle.dt_life.specs.declared.limits.TheConstants.{END}
use Rattle.dt_life.specs.declared.phase.End.{End}
use Rattle.dt_consumer.specs.Keeps.{AreAfter, IsTracing, tally_after}
use Rattle.dt_consumer.specs.Placing.{ArePlaced, IsPlaced}
use Rattle.dt_consumer.specs.Tallies.{new_tally}
use Rattle.dt_consumer.specs.TracedEcbs.{traced_among}
use Rattle.dt_consumer.specs.declared.ecb_lists.EcbList.{EcbList}
use Rattle.dt_consumer.specs.declared.processors.Processors.{Processors}
use Rattle.dt_consumer.specs.declared.tracing.Tracing.{Tracing}
use Rattle.dt_life.specs.laws.Lists.{filter-map, found_at}
use Rattle.dt_life.specs.laws.Options.{if_some_map}
use Rattle.dt_life.specs.laws.Tracings.{IsFiring, by_is, steps_more, still_open}
use Rattle.dt_life.specs.laws.Contexts.{own_found}

-- what happens changes no clause and no option, by which processors are after steps
pub since_moved : (account : Account) (registry : Registry) (s : SetUp) (events : List TracingEvent) (steps : List TracingStep)
    (processors : Processors) → AreAfter account registry s steps processors
    → AreAfter account registry (since_then s events) steps processors
since_moved account registry s events steps processors h =
    record { each = h.each; stores = h.stores; locals = h.locals; specs = h.specs }

-- the list of a probe has the forms of its ECBs
abbrev pub ListOf : Account → Registry → SetUp → ℕ → EcbList → Type 0
ListOf account registry s probe list = AreEcbs s.clauses (of_probe probe (ecbs_in account registry s)) list.ecbs.items

pub list_at : (account : Account) (registry : Registry) (s : SetUp) (lists : List EcbList) (probe : ℕ) (list : EcbList)
    → ((probe : ℕ) → IfSome (slice_get lists probe) (ListOf account registry s probe))
    → probe < length lists → list ≡ get_or lists probe list → ListOf account registry s probe list
list_at account registry s lists probe list each inside at =
    found_at (ListOf account registry s probe) lists probe list inside at (each probe)

-- what is kept of a probe's ECB that traces a variable alone
pub traced_at : (clauses : List ClauseForm) (lists : List EcbList) (probe : ℕ) (list : EcbList)
    → ((probe : ℕ) → IfSome (slice_get lists probe) (λ (l : EcbList). l.traced ≡ traced_among clauses l.ecbs.items))
    → probe < length lists → list ≡ get_or lists probe list → list.traced ≡ traced_among clauses list.ecbs.items
traced_at clauses lists probe list each inside at =
    found_at (λ (l : EcbList). l.traced ≡ traced_among clauses l.ecbs.items) lists probe list inside at (each probe)

-- what is taken of a list is what is taken of the probe's ECBs
list_taken : (account : Account) (registry : Registry) (s : SetUp) (probe : ℕ) (list : EcbList)
    → ListOf account registry s probe list → (in_end : Bool) (steps : List TracingStep) (m : ContextForm)
    → takings_by in_end s.options steps m s.clauses list.ecbs.items
    ≡ takings_of s.options steps in_end m (of_probe probe (ecbs_in account registry s))
list_taken account registry s probe list its in_end steps m = ap (takings_of s.options steps in_end m) its.forms

-- END fired on what had been taken
pub end_fired : (account : Account) (registry : Registry) (s : SetUp) (end : End) (list : EcbList) (new : Processors)
    → ListOf account registry s END list
    → IsSomeAnd (own_context account registry END) (λ m.
    AreAfter account registry s (steps_and (tracing_steps account registry s)
    (takings_by true s.options (tracing_steps account registry s) m s.clauses list.ecbs.items)) new)
    → AreAfter account registry (with_event s (ended end)) (tracing_steps account registry (with_event s (ended end))) new
end_fired account registry s end list new its h =
    let found = own_found account registry END _ h in
    let steps = tracing_steps account registry s in
    since_moved account registry s (ended end ∷ s.since) _ new
    (subst (λ xs. AreAfter account registry s xs new)
    (ap (steps_and steps) (list_taken account registry s END list its true steps _)
    ∙ sym (steps_more account registry s (ended end) _ found.is tt))
    found.holds)

-- what a firing made of the processors, and the status that it exited with
pub record Fired (account : Account) (registry : Registry) (s : SetUp) (event : TracingEvent) (new : Processors)
    (exit : Option ℤ) : Type 0 where
  pub after : AreAfter account registry (with_event s event) (tracing_steps account registry (with_event s event)) new
  pub exited : first_exit (taken_by account registry s.options (ecbs_in account registry s) (tracing_steps account registry s) event)
      ≡ exit
  pub still : (cpu : ℕ) → of_end (past_in account registry (with_event s event) cpu).events ≡ []

pub fired_at : (account : Account) (registry : Registry) (s : SetUp) (event : TracingEvent) (m : ContextForm)
    (list : EcbList) (new : Processors) (exit : Option ℤ) → IsFiring event → context_at account registry event ≡ Some m
    → is_end event ≡ false → ListOf account registry s m.firing.probe list
    → ((cpu : ℕ) → of_end (past_in account registry s cpu).events ≡ [])
    → AreAfter account registry s (steps_and (tracing_steps account registry s)
    (takings_by false s.options (tracing_steps account registry s) m s.clauses list.ecbs.items)) new
    → exit ≡ first_exit (takings_by false s.options (tracing_steps account registry s) m s.clauses list.ecbs.items)
    → Fired account registry s event new exit
fired_at account registry s event m list new exit fires at ordinary its none took left =
    let steps = tracing_steps account registry s in
    let same = list_taken account registry s m.firing.probe list its false steps m
    ∙ ap (λ b. taken_at s.options steps b m (ecbs_in account registry s)) (sym ordinary) in
    record {
      after = since_moved account registry s (event ∷ s.since) _ new
          (subst (λ xs. AreAfter account registry s xs new)
          (ap (steps_and steps) same ∙ sym (steps_more account registry s event m at fires)) took);
      exited = ap first_exit (by_is account registry s event m at ∙ sym same) ∙ sym left;
      still = still_open account registry s event m fires at ordinary none;
    }

-- the same set-up, written in another way
pub becomes : (account : Account) (registry : Registry) (s s' : SetUp) (t : Tracing) → s' ≡ s
    → IsTracing account registry s t → IsTracing account registry s' t
becomes account registry s s' t e h = subst (λ x. IsTracing account registry x t) (sym e) h

reserved : (fill first : Bool) (size reserve : ℕ) → reserve ≡ cond (fill && true) size 0
    → cond first reserve 0 ≡ cond (fill && first) size 0
reserved true true size reserve e = e
reserved true false size reserve e = refl
reserved false true size reserve e = e
reserved false false size reserve e = refl

-- new processors are before the first step
pub new_tallied : (account : Account) (registry : Registry) (s : SetUp) (options : OptionsForm) (reserve : ℕ)
    → options ≡ s.options → reserve ≡ reserve_on account registry s 0 → (cpu : ℕ)
    → new_tally options.bufpolicy options.bufsize (cond (cpu == 0) reserve 0) ≡ tally_after account registry s [] cpu
new_tallied account registry s options reserve same room cpu =
    ap (λ (o : OptionsForm). new_tally o.bufpolicy o.bufsize (cond (cpu == 0) reserve 0)) same
    ∙ ap (new_tally s.options.bufpolicy s.options.bufsize)
    (reserved (is_fill s.options.bufpolicy) (cpu == 0) (end_size account registry s) reserve room)

-- the ECBs of a probe are among those that are kept
of_list : (clauses : List ClauseForm) (probe : ℕ) (wanted : List EcbForm) (ecbs : List Ecb)
    → AreEcbs clauses wanted ecbs
    → AreEcbs clauses (of_probe probe wanted) (filter (λ (e : Ecb). e.probe == probe) ecbs)
of_list clauses probe wanted ecbs h = record {
  forms =
      sym (filter-map (form_of_ecb clauses) (λ (e : EcbForm). e.probe == probe) ecbs)
      ∙ ap (of_probe probe) h.forms;
  placed = All-filter (λ (e : Ecb). e.probe == probe) (IsPlaced (length clauses)) ecbs h.placed;
}

pub lists_kept : (account : Account) (registry : Registry) (s : SetUp) (ecbs : List Ecb) (lists : List EcbList)
    → AreEcbs s.clauses (ecbs_in account registry s) ecbs
    → ((probe : ℕ) → IfSome (slice_get lists probe)
    (λ list. list.ecbs.items ≡ filter (λ ecb. ecb.probe == probe) ecbs))
    → (probe : ℕ) → IfSome (slice_get lists probe)
    (λ list. AreEcbs s.clauses (of_probe probe (ecbs_in account registry s)) list.ecbs.items)
lists_kept account registry s ecbs lists kept each probe =
    if_some_map _ _ (slice_get lists probe)
    (λ list is. subst (AreEcbs s.clauses (of_probe probe (ecbs_in account registry s))) (sym is)
    (of_list s.clauses probe (ecbs_in account registry s) ecbs kept))
    (each probe)

pub lists_placed : (n : ℕ) (ecbs : List Ecb) (lists : List EcbList) → All (IsPlaced n) ecbs
    → ((probe : ℕ) → IfSome (slice_get lists probe) (λ list. list.ecbs.items ≡ filter (λ ecb. ecb.probe == probe) ecbs))
    → All (ArePlaced n) lists
lists_placed n ecbs lists all each = λ k d inside.
    let is : (get_or lists k d).ecbs.items ≡ filter (λ ecb. ecb.probe == k) ecbs =
    subst (λ o. IfSome o (λ (list : EcbList). list.ecbs.items ≡ filter (λ ecb. ecb.probe == k) ecbs))
    (slice_get-get_or lists k d inside) (each k) in
    subst (All (IsPlaced n)) (sym is) (All-filter (λ (e : Ecb). e.probe == k) (IsPlaced n) ecbs all)

pub placed_at : (n : ℕ) (lists : List EcbList) (i : ℕ) (list : EcbList) → i < length lists → list ≡ get_or lists i list
    → All (ArePlaced n) lists → All (IsPlaced n) list.ecbs.items
placed_at n lists i list inside at all = subst (ArePlaced n) (sym at) (All-get_or (ArePlaced n) lists i list inside all)

pub two_there : {X : Type 0} (P : X → Type 0) (xs : List X) → IsSomeAnd (slice_get xs 1) P → 1 < length xs
two_there P [] h = absurd h
two_there P (x ∷ []) h = absurd h
two_there P (x ∷ (y ∷ xs)) h = omega arith

-- ECBs that are placed among a program's clauses, placed after so many others
pub placed_behind : (before n : ℕ) (ecbs : List Ecb) → All (λ ecb. ecb.clause < n) ecbs
    → All (IsPlaced (before + n)) (map (placed_after before) ecbs)
placed_behind before n ecbs all =
    All-map (IsPlaced (before + n)) (placed_after before) ecbs (λ k d inside. omega (arith, all k d inside))
