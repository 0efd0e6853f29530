-- The drafts of commands that change more than the count.
use Rattle.std.proofs.Common.{◌≡◌, ℕ, ◌+◌, ◌<◌, Bool, true, false, List, [], ◌++◌, Option, Some, None, Ok, length, map}
use Rattle.std.proofs.Common.{refl, sym, ap, ◌∙◌, subst, ⊎_elim, arith}
use Rattle.std.specs.Global.{Box, Vec}
use Rattle.std.specs.Option.{IfSome, option_and_then}
use Rattle.std.proofs.lemmas.Bool.{cases_Bool}
use Rattle.std.proofs.lemmas.List.{length-map}
use Rattle.dt_buffer.specs.History.{BufferPast}
use Rattle.dt_buffer.specs.Shows.{Shows, HasContent, HasDrops, IsFilled}
use Rattle.dt_cred.specs.declared.account.Account.{Account}
use Rattle.dt_machine.specs.Registry.{Registry}
use Rattle.dt_lang.specs.Program.{ClauseForm, form_of_clause}
use Rattle.dt_lang.specs.Reads.{Reading, Reads, IsRefusedProgram, program, fault, destructive}
use Rattle.dt_lang.specs.declared.fault.LangFault.{LangFault}
use Rattle.dt_lang.specs.declared.fault.LangFault.TheVariants as faults
use Rattle.dt_lang.specs.declared.fault.Flaw.{Flaw}
use Rattle.dt_lang.specs.Fault.{why_of}
use Rattle.dt_lang.specs.Refused.{because, destroys}
use Rattle.dt_lang.specs.declared.word.Destructive.{Destructive}
use Rattle.dt_program.specs.declared.clause.Clause.{Clause}
use Rattle.dt_ecb.specs.Ecbs.{added}
use Rattle.dt_ecb.specs.Enable.{EnableVerdict, IsVerdict, is_enabled}
use Rattle.dt_ecb.specs.Enable as enabling
use Rattle.dt_ecb.specs.Forms.{form_of_ecb, shapes_of}
use Rattle.dt_ecb.specs.Shapes.{ShapeForm, uses_of}
use Rattle.dt_ecb.specs.declared.parts.Ecb.{Ecb}
use Rattle.dt_ecb.specs.declared.shapes.Shapes.{Shapes}
use Rattle.dt_life.specs.Answer.{answer_of, done, enabled}
use Rattle.dt_life.specs.Ask.{option, enable, go, stop, snap, close, reading_of, is_read}
use Rattle.dt_life.specs.Buffers.{past}
use Rattle.dt_consumer.specs.Draft.{IsDraftOf}
use Rattle.dt_life.specs.Placed.{AreEcbs}
use Rattle.dt_consumer.specs.Keeps.{IsTracing, Keeps}
use Rattle.dt_life.specs.Forms.{form_of_options}
use Rattle.dt_life.specs.Life.{Item, SetUp, is_over, is_readable, set_up, phase, next_epid, has_room, happens}
use Rattle.dt_life.specs.Life.{since_then, with_options, shapes_in}
use Rattle.dt_life.specs.Options.{Setting, with_setting}
use Rattle.dt_life.specs.Refusal.{refused_as}
use Rattle.dt_life.specs.Reply.{Accepted, IsVerdictOnCommand, refusal_of}
use Rattle.dt_life.specs.Takings.{began}
use Rattle.dt_consumer.specs.declared.consumer.Consumer.{Consumer}
use Rattle.dt_consumer.specs.declared.room.Room.{Room}
use Rattle.dt_consumer.specs.declared.draft.Change.TheVariants.{Counted, Set, Enable, Go, Stop, Snap, Close}
use Rattle.dt_consumer.specs.declared.draft.Draft.{Draft}
use Rattle.dt_life.specs.declared.options.Options.{Options}
use Rattle.dt_life.specs.declared.phase.Phase.TheVariants.{Inactive, Active}
use Rattle.dt_life.specs.declared.refusal.Refusal.{Refusal}
use Rattle.dt_life.specs.declared.refusal.Refusal.TheVariants as refusals
use Rattle.dt_life.specs.declared.refusal.Refusal.TheVariants.{Program}
use Rattle.dt_life.specs.declared.reply.Reply.{Reply}
use Rattle.dt_life.specs.declared.reply.Reply.TheVariants.{Done, Enabled, Refused}
use Rattle.dt_consumer.specs.declared.tracing.Tracing.{Tracing}
use Rattle.dt_life.specs.laws.Verdicts.{in_quota, accepted_reply, fault_refused, destructive_refused, program_verdict}
use Rattle.dt_life.specs.laws.Verdicts.{idle_program, go_taken, snap_taken, option_taken, set_by, stop_taken}
use Rattle.dt_consumer.proofs.DraftLemmas.{refused_by}

-- what a buffer tells of its past, in three parts
pub shown_all : ((past : BufferPast) (bytes other : List ℕ) (drops count : ℕ) (filled full : Bool)
    → Shows past bytes drops filled → Shows past other count full
    → (bytes ≡ other) × (drops ≡ count) × (filled ≡ full))
    → (past : BufferPast) (bytes : List ℕ) (drops : ℕ) (filled : Bool) → HasContent past bytes → HasDrops past drops
    → IsFilled past filled → Shows past bytes drops filled
shown_all one past bytes drops filled content dropped full =
    let second = one past bytes dropped.0 content.0 drops content.1 dropped.1 content.2 dropped.2 in
    let third = one past bytes full.0 content.0 full.1 content.1 filled content.2 full.2 in
    subst (λ n. Shows past bytes n filled) second.1
    (subst (λ b. Shows past bytes content.0 b) third.2 content.2)

module _ (account : Account) (registry : Registry) (life : List Item) where
  abbrev now : SetUp
  now = set_up account registry life

  -- an accepted reading
  pub snap_draft : (cpu : ℕ) (reply : Reply) → is_over life ≡ false
      → cpu < registry.cpus → is_readable (set_up account registry life) (phase account registry life) ≡ true
      → Accepted account registry life (snap cpu) (answer_of reply)
      → IsDraftOf account registry life (Ok (snap cpu)) (record { reply = reply; change = Snap cpu })
  snap_draft cpu reply fresh inside on accepted = record {
    replies =
        in_quota account registry life (Ok (snap cpu)) (answer_of reply) fresh
        (accepted_reply account registry life (snap cpu) (answer_of reply)
        (snap_taken account registry life cpu inside on) accepted);
    makes = (fresh, on, refl, inside);
  }

  -- a `close`, which is always accepted
  pub close_draft : is_over life ≡ false
      → IsDraftOf account registry life (Ok close) (record { reply = Done; change = Close })
  close_draft fresh = record {
    replies =
        in_quota account registry life (Ok close) done fresh
        (accepted_reply account registry life close done refl refl);
    makes = (fresh, refl);
  }

  -- an option that is set
  pub option_draft : (setting : Option Setting) (one : Setting) (options : Options) → setting ≡ Some one
      → form_of_options options ≡ with_setting (set_up account registry life).options one
      → is_over life ≡ false → phase account registry life ≡ Inactive
      → IsDraftOf account registry life (Ok (option setting)) (record { reply = Done; change = Set options })
  option_draft setting one options e is fresh off =
      subst
      (λ o. IsDraftOf account registry life (Ok (option o)) (record { reply = Done; change = Set options })) (sym e)
      (record {
        replies =
            in_quota account registry life (Ok (option (Some one))) done fresh
            (accepted_reply account registry life (option (Some one)) done
            (option_taken account registry life one off) refl);
        makes = (fresh, off, set_by account registry life one off ∙ ap (with_options now) (sym is), refl);
      })

  -- a `stop` while it traces
  pub stop_draft : is_over life ≡ false → phase account registry life ≡ Active
      → IsDraftOf account registry life (Ok stop) (record { reply = Done; change = Stop })
  stop_draft fresh on = record {
    replies =
        in_quota account registry life (Ok stop) done fresh
        (accepted_reply account registry life stop done (stop_taken account registry life on) refl);
    makes = (fresh, on, refl);
  }

  -- an accepted program
  pub program_draft : (count first : ℕ) (clauses : Vec Clause) (ecbs : Vec Ecb) (shapes : Shapes) (room : Room)
      → is_over life ≡ false → phase account registry life ≡ Inactive
      → first ≡ next_epid account registry (set_up account registry life)
      → is_enabled account registry (shapes_in (set_up account registry life)) first (map form_of_clause clauses.items)
      ≡ true
      → AreEcbs ((set_up account registry life).clauses ++ map form_of_clause clauses.items)
      (added account registry first (map form_of_clause clauses.items)) ecbs.items
      → count ≡ length ecbs.items
      → shapes_of shapes ≡ (shapes_in (set_up account registry life)) ++ uses_of (map form_of_clause clauses.items)
      → IsDraftOf account registry life (Ok (enable (program (map form_of_clause clauses.items))))
      (record { reply = Enabled count first; change = Enable clauses ecbs shapes room })
  program_draft count first clauses ecbs shapes room fresh off is holds are counts shaped =
      let forms = map form_of_clause clauses.items in
      let H : ℕ → Type 0 = λ n. is_enabled account registry (shapes_in now) n (map form_of_clause clauses.items)
      ≡ true in
      let A : ℕ → Type 0 = λ n. AreEcbs (now.clauses ++ map form_of_clause clauses.items)
      (added account registry n (map form_of_clause clauses.items)) ecbs.items in
      let allowed = subst H is holds in
      let placed = subst A is are in
      let long : length ecbs.items
      ≡ length (added account registry (next_epid account registry now) (map form_of_clause clauses.items)) =
      sym (length-map ecbs.items (form_of_ecb (now.clauses ++ map form_of_clause clauses.items)))
      ∙ ap length placed.forms in
      record {
        replies =
            in_quota account registry life (Ok (enable (program forms))) (enabled count first) fresh
            (accepted_reply account registry life (enable (program forms)) (enabled count first)
            (program_verdict account registry life forms enabling.enabled off allowed)
            (ap (λ n. enabled n first) (counts ∙ long)
            ∙ ap
            (enabled
            (length (added account registry (next_epid account registry now) (map form_of_clause clauses.items))))
            is));
        makes = (fresh, off, refl, allowed, placed, shaped);
      }

  -- a program that is refused
  pub program_refused : ((account : Account) (registry : Registry) (accepted : List ShapeForm) (epid : ℕ)
      (clauses : List ClauseForm) (a b : EnableVerdict) → IsVerdict account registry accepted epid clauses a
      → IsVerdict account registry accepted epid clauses b → a ≡ b)
      → (clauses : List ClauseForm) (o : Option EnableVerdict) (refusal : Refusal) (draft : Draft)
      → draft.reply ≡ Refused refusal → draft.change ≡ Counted → is_over life ≡ false
      → phase account registry life ≡ Inactive
      → IfSome o (IsVerdict account registry (shapes_in (set_up account registry life))
      (next_epid account registry (set_up account registry life)) clauses)
      → Some refusal ≡ option_and_then refusal_of o
      → IsDraftOf account registry life (Ok (enable (program clauses))) draft
  program_refused one clauses None refusal draft reply change fresh off is e = cc
  program_refused one clauses (Some v) refusal draft reply change fresh off is e =
      refused_by account registry life (enable (program clauses)) refusal draft reply change fresh
      (let P : Option Refusal → Type 0 = λ r. IsVerdictOnCommand account registry life (enable (program clauses)) r in
      subst P (sym e) (program_verdict account registry life clauses v off is))
      (idle_program account registry life clauses
      (⊎_elim
      (λ holds. absurd (never v (one account registry (shapes_in now) (next_epid account registry now) clauses v
      enabling.enabled is holds) e))
      (λ fails. fails)
      (cases_Bool (is_enabled account registry (shapes_in now) (next_epid account registry now) clauses))))
      refl
    where
      never : (v : EnableVerdict) → v ≡ enabling.enabled → Some refusal ≡ refusal_of v → ⊥
      never v same r = let no : Some refusal ≡ None = r ∙ ap refusal_of same in cc

  -- a text that is no program
  pub text_refused : (text : List ℕ) (f : LangFault) (refusal : Refusal) (draft : Draft)
      → ((text : List ℕ) (a b : Reading) → Reads text a → Reads text b → a ≡ b)
      → ((at end : ℕ) (flaw : Flaw) → f ≡ faults.Program at end flaw
      → IsRefusedProgram text at end (because flaw))
      → ((at end : ℕ) (what : Destructive) → f ≡ faults.Destructive at end what
      → IsRefusedProgram text at end (destroys what))
      → Some refusal ≡ refused_as f
      → draft.reply ≡ Refused refusal → draft.change ≡ Counted → is_over life ≡ false
      → phase account registry life ≡ Inactive
      → IsDraftOf account registry life (Ok (enable (reading_of text))) draft
  text_refused text (faults.Program at end flaw) refusal draft one read found e reply change fresh off =
      let same : reading_of text ≡ fault at (why_of flaw) =
      one text (reading_of text) (fault at (why_of flaw)) (is_read text)
      (end, flaw, refl, read at end flaw refl) in
      let its : refusal ≡ Program at (why_of flaw) = cc in
      subst (λ r. IsDraftOf account registry life (Ok (enable r)) draft) (sym same)
      (refused_by account registry life (enable (fault at (why_of flaw))) (Program at (why_of flaw)) draft
      (reply ∙ ap Refused its) change fresh (fault_refused account registry life at (why_of flaw) off) refl refl)
  text_refused text (faults.Destructive at end what) refusal draft one read found e reply change fresh off =
      let same : reading_of text ≡ destructive at what =
      one text (reading_of text) (destructive at what) (is_read text) (end, found at end what refl) in
      let its : refusal ≡ refusals.Destructive at what = cc in
      subst (λ r. IsDraftOf account registry life (Ok (enable r)) draft) (sym same)
      (refused_by account registry life (enable (destructive at what)) (refusals.Destructive at what) draft
      (reply ∙ ap Refused its) change fresh (destructive_refused account registry life at what off) refl refl)
  text_refused text faults.Memory refusal draft one read found e reply change fresh off = cc

  -- an accepted `go`
  pub go_draft : (t : Box Tracing) → is_over life ≡ false → phase account registry life ≡ Inactive
      → has_room account registry (set_up account registry life) ≡ true
      → IsTracing account registry (happens account registry (since_then (set_up account registry life) []) began) t.value
      → IsDraftOf account registry life (Ok go) (record { reply = Done; change = Go t })
  go_draft t fresh off room is = record {
    replies =
        in_quota account registry life (Ok go) done fresh
        (accepted_reply account registry life go done (go_taken account registry life off room) refl);
    makes = ((fresh, off, room, refl), is);
  }

-- what is said of a program by the consumer's fields is said by its set-up
module _ (account : Account) (registry : Registry) (s : SetUp) (consumer : Consumer)
    (k : Keeps account registry s consumer) where
  pub next_is : (first : ℕ) → first ≡ length consumer.programs.ecbs.items + 1 → first ≡ next_epid account registry s
  next_is first e = omega (
    arith,
    e,
    length-map consumer.programs.ecbs.items (form_of_ecb s.clauses),
    ap length k.ecbs.forms,
  )

  pub program_asked : (clauses : List ClauseForm) (first : ℕ) (o : Option EnableVerdict)
      → first ≡ next_epid account registry s
      → IfSome o (IsVerdict consumer.account registry (shapes_of consumer.programs.shapes) first clauses)
      → IfSome o (IsVerdict account registry (shapes_in s) (next_epid account registry s) clauses)
  program_asked clauses first o e is =
      let P : Account → Type 0 = λ a.
      IfSome o (IsVerdict a registry (shapes_of consumer.programs.shapes) first clauses) in
      let Q : List ShapeForm → Type 0 = λ shapes. IfSome o (IsVerdict account registry shapes first clauses) in
      let R : ℕ → Type 0 = λ n. IfSome o (IsVerdict account registry (shapes_in s) n clauses) in
      subst R e (subst Q k.shapes (subst P k.same_account is))

  pub enabled_asked : (clauses : List ClauseForm) (first : ℕ) (ecbs : List Ecb)
      → IsVerdict consumer.account registry (shapes_of consumer.programs.shapes) first clauses enabling.enabled
      × (map (form_of_ecb clauses) ecbs ≡ added consumer.account registry first clauses)
      → IsVerdict account registry (shapes_of consumer.programs.shapes) first clauses enabling.enabled
      × (map (form_of_ecb clauses) ecbs ≡ added account registry first clauses)
  enabled_asked clauses first ecbs is =
      let P : Account → Type 0 = λ a.
      IsVerdict a registry (shapes_of consumer.programs.shapes) first clauses enabling.enabled
      × (map (form_of_ecb clauses) ecbs ≡ added a registry first clauses) in
      subst P k.same_account is
