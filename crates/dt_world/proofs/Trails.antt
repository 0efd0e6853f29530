-- What is told of a world, after each step.
use Rattle.std.proofs.Common.{◌≡◌, ℕ, ◌++◌, ◌==◌, ◌&&◌, Bool, true, false, cond, List, [], ◌∷◌, codes, Option, Some}
use Rattle.std.proofs.Common.{None, is_none, is_some, nat_lt, length, ◌⊎◌, ⊎_elim, inl, inr, refl, sym, ap, ◌∙◌, subst}
use Rattle.std.proofs.Common.{arith}
use Rattle.std.proofs.lemmas.Bool.{eqb-true, eq-eqb, and_parts, cond_both}
use Rattle.std.proofs.lemmas.List.{append-nil, length-append, append_cancel_left}
use Rattle.std.specs.Option.{option_map, option_map_or, option_and_then}
use Rattle.dt_cred.specs.declared.account.Account.{Account}
use Rattle.dt_machine.specs.Registry.{Registry}
use Rattle.dt_cred.specs.declared.firing.Firing.{Firing}
use Rattle.dt_chain.specs.Writes.{published_on}
use Rattle.dt_chain.specs.declared.seat.TheConstants.{SEATS}
use Rattle.dt_life.specs.Life.{is_over}
use Rattle.dt_proto.specs.Lines.{LineForm}
use Rattle.dt_proto.specs.Session.{session_account}
use Rattle.dt_proto.specs.Splits.{with_newline}
use Rattle.dt_proto.specs.Trail.{fired_at, item_text}
use Rattle.dt_proto.specs.Alone.{IsText}
use Rattle.dt_world.specs.Replay.{IsTrailText, told_line}
use Rattle.dt_steps.specs.Stands.{IsAnswered, first_account, place_of, sees_on, seen_in}
use Rattle.dt_steps.specs.Steps.{with_session, question_of, answering, opening, asking, finishing, offered, offering}
use Rattle.dt_steps.specs.Steps.{offering_of, looking, looking_at, is_done}
use Rattle.dt_steps.specs.Sound.{IsSoundWorld}
use Rattle.dt_chain.specs.Tests.{mask_of}
use Rattle.dt_world.specs.Told.{IsTold, IsToldText, opening_text, reply_told, answer_told, firing_told}
use Rattle.dt_steps.specs.World.{World, Session, Pending, Place, DueOffer, Question, life_in, session_of, new_session}
use Rattle.dt_steps.specs.World.{answered, waiting, may_ask, accepts_go, session_numbered}
use Rattle.dt_steps.specs.declared.due.ScriptPlace.{ScriptPlace}
use Rattle.dt_world.specs.declared.output.Wanted.{Wanted}
use Rattle.dt_world.specs.declared.output.Wanted.TheVariants as wanted
use Rattle.dt_world.proofs.Firsts.{first_on, seen_as, text-same, first-same, first-answered, offered-seen}
use Rattle.dt_world.proofs.Firsts.{offered-unseen, passed-trail}
use Rattle.dt_world.proofs.Looks.{looking_keeps}
use Rattle.dt_world.proofs.Replying.{told-one_more}
use Rattle.dt_world.proofs.Silences.{either, SameViews, same_views, opening_silent, offering_silent}
use Rattle.dt_world.proofs.Telling.{trail-opened}

cond_and : {A : Type 0} (a b : Bool) (x y : A) → cond (a && b) x y ≡ cond a (cond b x y) y
cond_and true b x y = refl
cond_and false b x y = refl

no_more : {A : Type 0} (xs : List A) (x : A) → xs ++ x ∷ [] ≡ xs → ⊥
no_more xs x e =
    let long = length-append xs (x ∷ []) in
    let same : length (xs ++ x ∷ []) ≡ length xs = ap length e in
    absurd (omega (arith, long, same))

none_is : {A : Type 0} (o : Option A) → is_none o ≡ true → o ≡ None
none_is None h = refl
none_is (Some a) h = cc

empty_is : {A : Type 0} (xs : List A) → (length xs == 0) ≡ true → xs ≡ []
empty_is [] h = refl
empty_is (x ∷ xs) h = let none = eqb-true (length (x ∷ xs)) 0 h in absurd (omega (arith, none))

module _ (registry : Registry) (world : World) where
  -- A step that answers nothing and brings nothing to a session.
  pub told-silent : (wanted : Wanted) (later : World) (text : List ℕ) → later.questions ≡ world.questions
      → SameViews world later → IsTold wanted registry world text → IsTold wanted registry later text
  told-silent wanted.Replies later text same views told =
      subst (λ questions. IsToldText registry questions text) (sym same) told
  told-silent (wanted.Trail own) later text same views told =
      text-same registry (session_of world own 0) (session_of later own 0) text (views own) told

  -- the trail of a seat, after what is on some seat is another
  changed_at : (own at : ℕ) (place : Place) (text more : List ℕ)
      → (IsTrailText registry (first_on (world.places at)) text → IsTrailText registry (first_on place) (text ++ more))
      → IsTrailText registry (first_on (world.places own)) text
      → IsTrailText registry (first_on (cond (at == own) place (world.places own))) (text ++ cond (at == own) more [])
  changed_at own at place text more does h = by_seat (at == own) refl where
    by_seat : (b : Bool) → (at == own) ≡ b
        → IsTrailText registry (first_on (cond b place (world.places own))) (text ++ cond b more [])
    by_seat true is = does (subst (λ n. IsTrailText registry (first_on (world.places n)) text)
        (sym (eqb-true at own is)) h)
    by_seat false is = rw (append-nil text) h

  -- where nothing more is told
  changed_to : (own at : ℕ) (place : Place) (text : List ℕ)
      → (IsTrailText registry (first_on (world.places at)) text → IsTrailText registry (first_on place) text)
      → IsTrailText registry (first_on (world.places own)) text
      → IsTrailText registry (first_on (cond (at == own) place (world.places own))) text
  changed_to own at place text does h = by_seat (at == own) refl where
    by_seat : (b : Bool) → (at == own) ≡ b → IsTrailText registry (first_on (cond b place (world.places own))) text
    by_seat true is = does (subst (λ n. IsTrailText registry (first_on (world.places n)) text)
        (sym (eqb-true at own is)) h)
    by_seat false is = h

  -- An answer, and it is told.
  pub record Answers (later : World) (at : ℕ) (line : LineForm) (reply : List ℕ) : Type 0 where
    pub session : Session
    pub present : (world.places at).present ≡ Some session
    pub is : later ≡ answering world at session line
    pub text : IsText session.account registry session.view line reply

  pub told-answered : (wanted : Wanted) (later : World) (at : ℕ) (line : LineForm) (reply : List ℕ) (over : Bool)
      (text : List ℕ) → (a : Answers later at line reply) → over ≡ is_over (life_in registry a.session)
      → IsTold wanted registry world text
      → IsTold wanted registry later
      (text ++ reply_told wanted at (is_some (first_account (world.places at))) line reply over)
  told-answered wanted.Replies later at line reply over text a full told =
      subst (λ (w : World). IsToldText registry w.questions (text ++ told_line (at, reply))) (sym a.is)
      (told-one_more registry world.questions text (text ++ told_line (at, reply))
      (question_of world at a.session line)
      (at, reply) told (refl, a.text) refl)
  told-answered (wanted.Trail own) later at line reply over text a full told =
      let first = is_some (first_account (world.places at)) in
      let place : Place = record { present = Some (answered a.session line); earlier = (world.places at).earlier } in
      subst (λ (w : World). IsTrailText registry (session_of w own 0)
      (text ++ reply_told (wanted.Trail own) at first line reply over)) (sym a.is)
      (subst (λ more. IsTrailText registry (first_on (cond (at == own) place (world.places own))) (text ++ more))
      (sym (cond_and (at == own) first (answer_told line reply over) []))
      (changed_at own at place text (cond first (answer_told line reply over) [])
      (first-answered (world.places at) a.session a.present registry line reply over text a.text full)
      told))

  -- Ask
  abbrev begun : (at : ℕ) → LineForm → Session → World
  begun at line session = cond (accepts_go registry session line) (with_session world at (waiting session line false))
      (answering world at session line)

  asking_none : (at : ℕ) (line : LineForm) → (asking registry world at line).questions ≡ world.questions
      → SameViews world (asking registry world at line)
  unfolding asking
  asking_none at line = asked_case (world.places at).present refl where
    begun_case : (session : Session) (go : Bool) → (world.places at).present ≡ Some session
        → (cond go (with_session world at (waiting session line false)) (answering world at session line)).questions
        ≡ world.questions
        → SameViews world (cond go (with_session world at (waiting session line false))
        (answering world at session line))
    begun_case session true is same =
        same_views world at (record {
          present = Some (waiting session line false);
          earlier = (world.places at).earlier;
        })
        (first-same (world.places at) session is (waiting session line false) refl refl)
    begun_case session false is same = absurd (no_more world.questions (question_of world at session line) same)

    may_case : (session : Session) (may : Bool) → (world.places at).present ≡ Some session
        → (cond may (begun at line session) world).questions ≡ world.questions
        → SameViews world (cond may (begun at line session) world)
    may_case session true is same = begun_case session (accepts_go registry session line) is same
    may_case session false is same = λ seat. refl

    asked_case : (present : Option Session) → (world.places at).present ≡ present
        → (option_map_or (λ session. cond (may_ask registry session) (begun at line session) world) present
        world).questions
        ≡ world.questions
        → SameViews world (option_map_or (λ session. cond (may_ask registry session) (begun at line session) world)
        present world)
    asked_case None is same = λ seat. refl
    asked_case (Some session) is same = may_case session (may_ask registry session) is same

  one_question : (session : Session) (at : ℕ) (line : LineForm) (reply : List ℕ) (question : Question)
      → world.questions ++ question_of world at session line ∷ [] ≡ world.questions ++ question ∷ []
      → IsText question.account registry question.view question.line reply
      → IsText session.account registry session.view line reply
  one_question session at line reply question e text =
      let last : question_of world at session line ∷ [] ≡ question ∷ [] =
      append_cancel_left world.questions (question_of world at session line ∷ []) (question ∷ []) e in
      let one : question_of world at session line ≡ question = cc in
      subst (λ (q : Question). IsText q.account registry q.view q.line reply) (sym one) text

  pub asking-answers : (at : ℕ) (line : LineForm) (reply : List ℕ)
      → IsAnswered registry world (asking registry world at line) at (Some reply)
      → Answers (asking registry world at line) at line reply
  unfolding asking
  asking-answers at line reply h = asked_case (world.places at).present refl h where
    begun_case : (session : Session) (go : Bool) → (world.places at).present ≡ Some session
        → IsAnswered registry world (cond go (with_session world at (waiting session line false))
        (answering world at session line)) at (Some reply)
        → Answers (cond go (with_session world at (waiting session line false)) (answering world at session line))
        at line reply
    begun_case session true is a = absurd (no_more world.questions a.0 (sym a.1))
    begun_case session false is a = record {
      session = session;
      present = is;
      is = refl;
      text = one_question session at line reply a.0 a.1 a.2.1;
    }

    may_case : (session : Session) (may : Bool) → (world.places at).present ≡ Some session
        → IsAnswered registry world (cond may (begun at line session) world) at (Some reply)
        → Answers (cond may (begun at line session) world) at line reply
    may_case session true is a = begun_case session (accepts_go registry session line) is a
    may_case session false is a = absurd (no_more world.questions a.0 (sym a.1))

    asked_case : (present : Option Session) → (world.places at).present ≡ present
        → IsAnswered registry world
        (option_map_or (λ session. cond (may_ask registry session) (begun at line session) world) present world) at
        (Some reply)
        → Answers (option_map_or (λ session. cond (may_ask registry session) (begun at line session) world) present
        world) at line reply
    asked_case None is a = absurd (no_more world.questions a.0 (sym a.1))
    asked_case (Some session) is a = may_case session (may_ask registry session) is a

  pub told-unasked : (wanted : Wanted) (at : ℕ) (line : LineForm) (text : List ℕ)
      → IsAnswered registry world (asking registry world at line) at None → IsTold wanted registry world text
      → IsTold wanted registry (asking registry world at line) text
  told-unasked wanted at line text none told =
      told-silent wanted (asking registry world at line) text none (asking_none at line none) told

  -- Finish
  pub record Finishes (later : World) (at : ℕ) (reply : List ℕ) : Type 0 where
    pub pending : Pending
    pub answers : Answers later at pending.line reply
    pub go : answers.session.go ≡ Some pending

  pub finishing-answers : (at : ℕ) (reply : List ℕ)
      → IsAnswered registry world (finishing world at) at (Some reply) → Finishes (finishing world at) at reply
  unfolding finishing
  finishing-answers at reply h = finished_case (world.places at).present refl h where
    published_case : (session : Session) (pending : Pending) (done : Bool) → (world.places at).present ≡ Some session
        → session.go ≡ Some pending
        → IsAnswered registry world (cond done (answering world at session pending.line) world) at (Some reply)
        → Finishes (cond done (answering world at session pending.line) world) at reply
    published_case session pending true is go a = record {
      pending = pending;
      answers = record {
        session = session;
        present = is;
        is = refl;
        text = one_question session at pending.line reply a.0 a.1 a.2.1;
      };
      go = go;
    }
    published_case session pending false is go a = absurd (no_more world.questions a.0 (sym a.1))

    go_case : (session : Session) (go : Option Pending) → (world.places at).present ≡ Some session → session.go ≡ go
        → IsAnswered registry world
        (option_map_or (λ pending. cond pending.published (answering world at session pending.line) world) go world)
        at (Some reply)
        → Finishes (option_map_or (λ pending. cond pending.published (answering world at session pending.line) world)
        go world) at reply
    go_case session None is go a = absurd (no_more world.questions a.0 (sym a.1))
    go_case session (Some pending) is go a = published_case session pending pending.published is go a

    finished_case : (present : Option Session) → (world.places at).present ≡ present
        → IsAnswered registry world (option_map_or (λ session. option_map_or
        (λ pending. cond pending.published (answering world at session pending.line) world) session.go world)
        present world)
        at (Some reply)
        → Finishes (option_map_or (λ session. option_map_or
        (λ pending. cond pending.published (answering world at session pending.line) world) session.go world) present
        world) at reply
    finished_case None is a = absurd (no_more world.questions a.0 (sym a.1))
    finished_case (Some session) is a = go_case session session.go is refl a

  finishing_none : (at : ℕ) → (finishing world at).questions ≡ world.questions → finishing world at ≡ world
  unfolding finishing
  finishing_none at h =
      either (λ (w : World). w.questions ≡ world.questions → w ≡ world) _ world (world.places at).present (λ _. refl)
      (λ session. either (λ (w : World). w.questions ≡ world.questions → w ≡ world) _ world session.go (λ _. refl)
      (λ pending. published_case session pending pending.published)) h where
        published_case : (session : Session) (pending : Pending) (done : Bool)
            → (cond done (answering world at session pending.line) world).questions ≡ world.questions
            → cond done (answering world at session pending.line) world ≡ world
        published_case session pending true same =
            absurd (no_more world.questions (question_of world at session pending.line) same)
        published_case session pending false same = refl

  pub told-unfinished : (wanted : Wanted) (at : ℕ) (text : List ℕ)
      → IsAnswered registry world (finishing world at) at None → IsTold wanted registry world text
      → IsTold wanted registry (finishing world at) text
  told-unfinished wanted at text none told =
      subst (λ w. IsTold wanted registry w text) (sym (finishing_none at none)) told

  -- A pending `go` was accepted, so its line is within the quota.
  pub within_quota : (at : ℕ) (session : Session) (pending : Pending) → (world.places at).present ≡ Some session
      → session.go ≡ Some pending → IsSoundWorld registry world → false ≡ is_over (life_in registry session)
  within_quota at session pending is go sound =
      let seat = sound.seats at in
      let is_sound = rw is at seat in
      sym ((is_sound.1.accepted pending go).0)

  -- Open
  record Opens (later : World) (at : ℕ) : Type 0 where
    pub account : Account
    pub free : (world.places at).present ≡ None
    pub is : later ≡ with_session world at (new_session account)

  opening_cases : (at : ℕ) (name : List ℕ)
      → (opening registry world at name ≡ world) ⊎ Opens (opening registry world at name) at
  unfolding opening
  opening_cases at name =
      free_case (nat_lt at SEATS && is_none (world.places at).present) (session_account registry name) refl where
        free_case : (free : Bool) (account : Option Account)
            → (nat_lt at SEATS && is_none (world.places at).present) ≡ free
            → (cond free (option_map_or (λ own. with_session world at (new_session own)) account world) world ≡ world)
            ⊎ Opens (cond free (option_map_or (λ own. with_session world at (new_session own)) account world) world) at
        free_case false account is = inl refl
        free_case true None is = inl refl
        free_case true (Some own) is =
            inr (record {
              account = own;
              free = none_is (world.places at).present
                  (and_parts (nat_lt at SEATS) (is_none (world.places at).present) is).1;
              is = refl;
            })

  -- what is on the seat then
  abbrev opened_on : (at : ℕ) → Account → Place
  opened_on at account = record { present = Some (new_session account); earlier = (world.places at).earlier }

  free_first : (at : ℕ) → (world.places at).present ≡ None → first_on (world.places at)
      ≡ session_numbered (world.places at).earlier 0
  free_first at free = rw free refl

  here_is : (at : ℕ) (later : World) → (opens : Opens later at)
      → first_account (later.places at) ≡ first_account (opened_on at opens.account)
  here_is at later opens =
      ap (λ (w : World). first_account (w.places at)) opens.is
      ∙ ap (λ b. first_account (cond b (opened_on at opens.account) (world.places at))) (eq-eqb at at refl)

  -- the first session on a seat was opened
  opened_first : (at : ℕ) (account : Account) (later : World) (text : List ℕ) → (opens : Opens later at)
      → first_account (later.places at) ≡ Some account → IsTrailText registry (first_on (world.places at)) text
      → IsTrailText registry (first_on (opened_on at opens.account))
      (text ++ with_newline (codes "account " ++ account.name))
  opened_first at account later text opens first h =
      by_number (length (world.places at).earlier == 0) refl (sym (here_is at later opens) ∙ first) where
        by_number : (b : Bool) → (length (world.places at).earlier == 0) ≡ b
            → cond b (Some opens.account) None ≡ Some account
            → IsTrailText registry (cond b (Some (new_session opens.account))
            (session_numbered (world.places at).earlier 0))
            (text ++ with_newline (codes "account " ++ account.name))
        by_number true is same =
            let one : opens.account ≡ account = cc in
            let none : first_on (world.places at) ≡ None =
            free_first at opens.free ∙ ap (λ xs. session_numbered xs 0) (empty_is (world.places at).earlier is) in
            let empty : text ≡ [] = subst (λ session. IsTrailText registry session text) none h in
            rw (empty, one) (trail-opened account registry [])
        by_number false is same = cc

  pub told-opened : (wanted : Wanted) (at : ℕ) (name : List ℕ) (account : Account) (text : List ℕ)
      → first_account (world.places at) ≡ None
      → first_account ((opening registry world at name).places at) ≡ Some account
      → IsTold wanted registry world text
      → IsTold wanted registry (opening registry world at name) (text ++ opening_text wanted at account)
  told-opened wanted.Replies at name account text none first told =
      rw (append-nil text) (subst (λ questions. IsToldText registry questions text)
      (sym (opening_silent world registry at name)) told)
  told-opened (wanted.Trail own) at name account text none first told =
      ⊎_elim
      (λ same.
      let bad : None ≡ Some account = sym none ∙ ap (λ (w : World). first_account (w.places at)) (sym same)
      ∙ first in cc)
      (λ opens.
      let more = with_newline (codes "account " ++ account.name) in
      subst (λ (w : World). IsTrailText registry (session_of w own 0)
      (text ++ opening_text (wanted.Trail own) at account))
      (sym opens.is)
      (subst (λ own_more. IsTrailText registry
      (first_on (cond (at == own) (opened_on at opens.account) (world.places own))) (text ++ own_more))
      (sym (cond_and (at == own) true more []))
      (changed_at own at (opened_on at opens.account) text more
      (opened_first at account (opening registry world at name) text opens first) told)))
      (opening_cases at name)

  -- it is not the first on its seat
  later_views : (at : ℕ) (later : World) → (opens : Opens later at) → first_account (later.places at) ≡ None
      → SameViews world later
  later_views at later opens none =
      subst (SameViews world) (sym opens.is)
      (same_views world at (opened_on at opens.account)
      (by_number (length (world.places at).earlier == 0) (sym (here_is at later opens) ∙ none)
      ∙ ap seen_as (sym (free_first at opens.free)))) where
        by_number : (b : Bool) → cond b (Some opens.account) None ≡ None
            → seen_as (cond b (Some (new_session opens.account)) (session_numbered (world.places at).earlier 0))
            ≡ seen_as (session_numbered (world.places at).earlier 0)
        by_number true is = cc
        by_number false is = refl

  pub told-unopened : (wanted : Wanted) (at : ℕ) (name : List ℕ) (text : List ℕ)
      → (first_account ((opening registry world at name).places at) ≡ None)
      ⊎ (is_some (first_account (world.places at)) ≡ true)
      → IsTold wanted registry world text → IsTold wanted registry (opening registry world at name) text
  told-unopened wanted at name text why told =
      ⊎_elim
      (λ same. subst (λ w. IsTold wanted registry w text) (sym same) told)
      (λ opens.
      told-silent wanted (opening registry world at name) text (opening_silent world registry at name)
      (⊎_elim (later_views at (opening registry world at name) opens) (λ there. absurd (not_there opens there)) why)
      told)
      (opening_cases at name) where
        not_there : Opens (opening registry world at name) at → is_some (first_account (world.places at)) ≡ true → ⊥
        not_there opens there =
            let none : first_account (world.places at) ≡ None = rw (opens.free) refl in
            let bad : false ≡ true = sym (ap is_some none) ∙ there in cc

  -- Offer
  offered_case : (own cpu at : ℕ) (text more : List ℕ) (due : DueOffer)
      → (IsTrailText registry (first_on (world.places at)) text
      → IsTrailText registry (first_on (offered due (world.places at))) (text ++ more))
      → IsTrailText registry (session_of world own 0) text
      → IsTrailText registry (session_of (offering_of world cpu at due) own 0) (text ++ cond (at == own) more [])
  offered_case own cpu at text more due does told =
      changed_at own at (offered due (world.places at)) text more does told

  abbrev brings : (at : ℕ) → DueOffer → Option Firing
  brings at due = cond (sees_on registry due (world.places at)) (Some due.firing) None

  pub told-seen : (wanted : Wanted) (cpu at : ℕ) (firing : Firing) (text : List ℕ)
      → Some firing ≡ seen_in registry world cpu at → IsTold wanted registry world text
      → IsTold wanted registry (offering world cpu at)
      (text ++ firing_told wanted at (is_some (first_account (world.places at))) firing.cpu firing.place)
  unfolding offering
  told-seen wanted.Replies cpu at firing text seen told =
      rw (append-nil text) (subst (λ questions. IsToldText registry questions text)
      (sym (offering_silent world cpu at)) told)
  told-seen (wanted.Trail own) cpu at firing text seen told =
      due_case (world.due cpu at) seen where
        sees_case : (due : DueOffer) (sees : Bool) → sees_on registry due (world.places at) ≡ sees
            → Some firing ≡ cond sees (Some due.firing) None
            → IsTrailText registry (session_of (offering_of world cpu at due) own 0)
            (text ++ firing_told (wanted.Trail own) at (is_some (first_account (world.places at))) firing.cpu
            firing.place)
        sees_case due true is seen =
            let one : firing ≡ due.firing = cc in
            let item = item_text (fired_at due.firing.cpu due.firing.place) in
            rw (one, cond_and (at == own) (is_some (first_account (world.places at))) item [])
            (offered_case own cpu at text (cond (is_some (first_account (world.places at))) item []) due
            (offered-seen registry due (world.places at) text is) told)
        sees_case due false is seen = cc

        due_case : (due : Option DueOffer) → Some firing ≡ option_and_then (brings at) due
            → IsTrailText registry (session_of (option_map_or (λ one. offering_of world cpu at one) due world) own 0)
            (text ++ firing_told (wanted.Trail own) at (is_some (first_account (world.places at))) firing.cpu
            firing.place)
        due_case None seen = cc
        due_case (Some due) seen = sees_case due (sees_on registry due (world.places at)) refl seen

  -- the same by where the firing stands
  pub told-seen-at : (wanted : Wanted) (cpu at : ℕ) (place : ScriptPlace) (text : List ℕ)
      → Some place ≡ option_map place_of (seen_in registry world cpu at) → IsTold wanted registry world text
      → IsTold wanted registry (offering world cpu at)
      (text ++ firing_told wanted at (is_some (first_account (world.places at))) place.cpu place.place)
  told-seen-at wanted cpu at place text seen told = by_seen (seen_in registry world cpu at) refl seen where
    by_seen : (seen : Option Firing) → seen_in registry world cpu at ≡ seen → Some place ≡ option_map place_of seen
        → IsTold wanted registry (offering world cpu at)
        (text ++ firing_told wanted at (is_some (first_account (world.places at))) place.cpu place.place)
    by_seen None is e = cc
    by_seen (Some firing) is e =
        let one : place ≡ place_of firing = cc in
        rw one (told-seen wanted cpu at firing text (sym is) told)

  pub told-unseen : (wanted : Wanted) (cpu at : ℕ) (text : List ℕ)
      → None ≡ seen_in registry world cpu at → IsTold wanted registry world text
      → IsTold wanted registry (offering world cpu at) text
  unfolding offering
  told-unseen wanted.Replies cpu at text seen told =
      subst (λ questions. IsToldText registry questions text) (sym (offering_silent world cpu at)) told
  told-unseen (wanted.Trail own) cpu at text seen told =
      due_case (world.due cpu at) seen where
        sees_case : (due : DueOffer) (sees : Bool) → sees_on registry due (world.places at) ≡ sees
            → None ≡ cond sees (Some due.firing) None
            → IsTrailText registry (session_of (offering_of world cpu at due) own 0) text
        sees_case due true is seen = cc
        sees_case due false is seen =
            changed_to own at (offered due (world.places at)) text
            (offered-unseen registry due (world.places at) text is) told

        due_case : (due : Option DueOffer) → None ≡ option_and_then (brings at) due
            → IsTrailText registry (session_of (option_map_or (λ one. offering_of world cpu at one) due world) own 0)
            text
        due_case None seen = told
        due_case (Some due) seen = sees_case due (sees_on registry due (world.places at)) refl seen

  pub told-unseen-at : (wanted : Wanted) (cpu at : ℕ) (text : List ℕ)
      → option_map place_of (seen_in registry world cpu at) ≡ None → IsTold wanted registry world text
      → IsTold wanted registry (offering world cpu at) text
  told-unseen-at wanted cpu at text unseen told = by_seen (seen_in registry world cpu at) refl unseen where
    by_seen : (seen : Option Firing) → seen_in registry world cpu at ≡ seen
        → option_map place_of seen ≡ None → IsTold wanted registry (offering world cpu at) text
    by_seen None is e = told-unseen wanted cpu at text (sym is) told
    by_seen (Some firing) is e = cc

  -- Look
  pub told-looked : (wanted : Wanted) (cpu : ℕ) (firing : Firing) (text : List ℕ) → IsSoundWorld registry world
      → IsTold wanted registry world text → IsTold wanted registry (looking registry world cpu firing) text
  unfolding looking mask_of
  told-looked wanted.Replies cpu firing text sound told =
      subst (λ questions. IsToldText registry questions text) (sym (looking_keeps registry world cpu firing)) told
  told-looked (wanted.Trail own) cpu firing text sound told =
      cond_both (nat_lt cpu registry.cpus && (firing.cpu == cpu && is_done (world.due cpu)))
      (looking_at world cpu firing (mask_of registry world.writes firing)) world
      (λ w. IsTrailText registry (session_of w own 0) text)
      (λ _. passed-trail registry own (published_on world.writes own) (world.places own) firing text
      (sound.seats own) told)
      (λ _. told)
