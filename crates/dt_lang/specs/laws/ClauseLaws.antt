-- The laws of reading programs token by token. `run start ts` is what the tokens lead to. For all tokens `t`, `ts`,
-- `us`,
-- states `s` and programs `cs`:
--
--     program_leads  ReadsProgram ts cs → ProgramLeads ts cs
--     read           run start ts ≡ Some s → Read s ts
--     sound_program  run start ts ≡ Some s → finished s ≡ Some cs → ReadsProgram ts cs
--     viable         run start ts ≡ Some s → Begins ts
--     leads          Begins ts → Leads ts
--     goes_on        run start ts ≡ Some s → Begins (ts ++ (t ∷ [])) → Steps s t
--     begins_on      run start ts ≡ Some s → Steps s t → Begins (ts ++ (t ∷ []))
--     one_program    ReadsProgram ts cs → ReadsProgram ts ds → cs ≡ ds
use Rattle.std.proofs.Common.{◌≡◌, List, [], ◌∷◌, ◌++◌, Option, Some, None, refl, sym, ap, ◌∙◌}
use Rattle.std.specs.Prelude.{option_and_then}
use Rattle.dt_lang.specs.declared.token.Token.{Token}
use Rattle.dt_program.specs.Clause.{ClauseForm}
use Rattle.dt_lang.specs.Grammar.{ReadsClauses, ReadsProgram, Begins}
use Rattle.dt_lang.specs.machine.ClauseState.{PlaceForm, outside, ProgramState, whole, finished_at, program_step, program_run, program_start}
use Rattle.dt_lang.specs.machine.ClauseState.{finished}
use Rattle.dt_lang.specs.laws.Reading.{ReadAt, Read}
use Rattle.dt_lang.specs.laws.ClauseSound.{none_some, same_some, sound_run, starts}
use Rattle.dt_lang.specs.laws.ClauseComplete.{run-append, run_on, program_leads}
use Rattle.dt_lang.specs.laws.ClauseViable.{completes}

pub read : (ts : List Token) (s : ProgramState) → program_run program_start ts ≡ Some s → Read s ts
read ts s h = sound_run ts [] program_start s starts h

whole_reads : (ts : List Token) (cs ds : List ClauseForm) → ReadsClauses ts cs → whole cs ≡ Some ds
    → ReadsProgram ts ds
whole_reads ts [] ds h e = absurd (none_some e)
whole_reads ts (c ∷ cs) ds h e =
    let same : c ∷ cs ≡ ds = same_some e in
    rw (sym same) (record { reads = h; some = λ k. cc })

pub sound_program : (ts : List Token) (s : ProgramState) (cs : List ClauseForm) → program_run program_start ts ≡ Some s
    → finished s ≡ Some cs → ReadsProgram ts cs
unfolding finished
sound_program ts s cs h e = go s.place (read ts s h) e
  where
    go : (p : PlaceForm) → ReadAt s.clauses s.clause p ts → finished_at s.clauses p ≡ Some cs → ReadsProgram ts cs
    go outside r k = whole_reads ts s.clauses cs r k
    go p r k = absurd (none_some k)

pub viable : (ts : List Token) (s : ProgramState) → program_run program_start ts ≡ Some s → Begins ts
viable ts s h =
    let c = completes s ts (read ts s h) in
    let r = run_on program_start s _ ts c.more h c.runs in
    record { more = c.more; clauses = c.clauses; reads = record { reads = read (ts ++ c.more) _ r; some = c.some } }

-- The tokens lead somewhere.
pub record Leads (ts : List Token) : Type 0 where
  pub at : ProgramState
  pub runs : program_run program_start ts ≡ Some at

-- The first tokens lead somewhere, and the others on from there.
pub record LeadsBy (ts us : List Token) (next : ProgramState) : Type 0 where
  pub at : ProgramState
  pub first : program_run program_start ts ≡ Some at
  pub second : program_run at us ≡ Some next

pub leads_by : (ts us : List Token) (next : ProgramState) → program_run program_start (ts ++ us) ≡ Some next
    → LeadsBy ts us next
leads_by ts us next h = go (program_run program_start ts) refl (sym (run-append ts us program_start) ∙ h)
  where
    go : (o : Option ProgramState) → program_run program_start ts ≡ o → option_and_then (λ n. program_run n us) o ≡ Some next
        → LeadsBy ts us next
    go None e k = absurd (none_some k)
    go (Some at) e k = record { at = at; first = e; second = k }

pub leads : (ts : List Token) → Begins ts → Leads ts
leads ts h =
    let p = program_leads (ts ++ h.more) h.clauses h.reads in
    let b = leads_by ts h.more p.at p.runs in
    record { at = b.at; runs = b.first }

-- The token leads on from the state.
pub record Steps (s : ProgramState) (t : Token) : Type 0 where
  pub next : ProgramState
  pub steps : program_step s t ≡ Some next

-- one token leads on by a step
pub steps_to : (s next : ProgramState) (t : Token) → program_run s (t ∷ []) ≡ Some next → program_step s t ≡ Some next
unfolding program_run
steps_to s next t h = go (program_step s t) refl h
  where
    go : (o : Option ProgramState) → program_step s t ≡ o → option_and_then (λ n. program_run n []) o ≡ Some next
        → program_step s t ≡ Some next
    go None e k = absurd (none_some k)
    go (Some m) e k = e ∙ k

-- Two tokens lead on by two steps.
pub record TwoSteps (s next : ProgramState) (t u : Token) : Type 0 where
  pub middle : ProgramState
  pub first : program_step s t ≡ Some middle
  pub second : program_step middle u ≡ Some next

pub two_steps : (s next : ProgramState) (t u : Token) → program_run s (t ∷ u ∷ []) ≡ Some next → TwoSteps s next t u
unfolding program_run
two_steps s next t u h = go (program_step s t) refl h
  where
    go : (o : Option ProgramState) → program_step s t ≡ o
        → option_and_then (λ n. program_run n (u ∷ [])) o ≡ Some next → TwoSteps s next t u
    go None e k = absurd (none_some k)
    go (Some m) e k = record { middle = m; first = e; second = steps_to m next u k }

steps_run : (s next : ProgramState) (t : Token) → program_run s (t ∷ []) ≡ Some next → Steps s t
unfolding program_run
steps_run s next t h = go (program_step s t) refl h
  where
    go : (o : Option ProgramState) → program_step s t ≡ o → option_and_then (λ n. program_run n []) o ≡ Some next → Steps s t
    go None e k = absurd (none_some k)
    go (Some m) e k = record { next = m; steps = e }

pub goes_on : (ts : List Token) (s : ProgramState) (t : Token) → program_run program_start ts ≡ Some s
    → Begins (ts ++ (t ∷ []))
    → Steps s t
goes_on ts s t h b =
    let l = leads (ts ++ (t ∷ [])) b in
    let k = leads_by ts (t ∷ []) l.at l.runs in
    let same : k.at ≡ s = same_some (sym k.first ∙ h) in
    let on : program_run s (t ∷ []) ≡ Some l.at = rw same at k.second in
    steps_run s l.at t on

one_step : (s next : ProgramState) (t : Token) → program_step s t ≡ Some next → program_run s (t ∷ []) ≡ Some next
unfolding program_run
one_step s next t h = rw h refl

pub begins_on : (ts : List Token) (s : ProgramState) (t : Token) → program_run program_start ts ≡ Some s → Steps s t
    → Begins (ts ++ (t ∷ []))
begins_on ts s t h k =
    viable (ts ++ (t ∷ [])) k.next (run_on program_start s k.next ts (t ∷ []) h (one_step s k.next t k.steps))

pub one_program : (ts : List Token) (cs ds : List ClauseForm) → ReadsProgram ts cs → ReadsProgram ts ds → cs ≡ ds
one_program ts cs ds h k =
    let p = program_leads ts cs h in
    let q = program_leads ts ds k in
    let same : p.at ≡ q.at = same_some (sym p.runs ∙ q.runs) in
    same_some (sym p.is_finished ∙ ap finished same ∙ q.is_finished)
