-- The questions of each session are the lines of its view.
use Rattle.std.proofs.Common.{◌≡◌, ℕ, ◌≤◌, ◌&&◌, ◌==◌, Bool, true, false, cond, List, [], ◌∷◌, ◌++◌, Option, Some, None}
use Rattle.std.proofs.Common.{is_none, nat_lt, length, map, fold, refl, sym, ap, ◌∙◌, subst, arith}
use Rattle.std.proofs.lemmas.Bool.{eqb-true, eq-eqb, and_parts, and_left, cond_both}
use Rattle.std.proofs.lemmas.List.{append-nil, map-append}
use Rattle.std.proofs.lemmas.List.Elements.{filter-append}
use Rattle.std.specs.List.{filter}
use Rattle.std.specs.Option.{option_map_or}
use Rattle.dt_cred.specs.declared.account.Account.{Account}
use Rattle.dt_machine.specs.Registry.{Registry}
use Rattle.dt_cred.specs.declared.firing.Firing.{Firing}
use Rattle.dt_chain.specs.declared.seat.TheConstants.{SEATS}
use Rattle.dt_life.specs.Answer.{Answer}
use Rattle.dt_proto.specs.Alone.{Reached, own_line, firing_made, Alone, IsText}
use Rattle.dt_proto.specs.Lines.{LineForm}
use Rattle.dt_proto.specs.Reply.{reply_text}
use Rattle.dt_proto.specs.Session.{session_account}
use Rattle.dt_steps.specs.Ran.{SeatReply, IsReply, AreReplies, is_of, told_to, IsAnsweredAlone}
use Rattle.dt_steps.specs.Steps.{StepForm, opens, asks, publishes, finishes, withdraws, looks, offers, closes, after_step}
use Rattle.dt_steps.specs.Steps.{with_session, question_of, answering, opening, asking, publishing, finishing}
use Rattle.dt_steps.specs.Steps.{withdrawing, passed, looking, is_done, offered, offering, closing, world_after}
use Rattle.dt_chain.specs.Tests.{mask_of}
use Rattle.dt_steps.specs.World.{World, Session, Place, DueOffer, Question, new_world, number_on, session_numbered}
use Rattle.dt_steps.specs.World.{sessions_on, session_of, new_session, reached, answered, waiting, may_ask, accepts_go}
use Rattle.dt_steps.specs.World.{may_withdraw}
use Rattle.dt_steps.proofs.Soundness.{updated, updated_others, option_case}

-- the questions of a session, by its view, the oldest first
abbrev pub asked_by : (seat n : ℕ) → Account → List Reached → List Question
asked_by seat n account [] = []
asked_by seat n account (own_line line ∷ view) =
    asked_by seat n account view
    ++ record { seat = seat; number = n; account = account; view = view; line = line } ∷ []
asked_by seat n account (firing_made firing ∷ view) = asked_by seat n account view

abbrev pub asked_of : (seat n : ℕ) → Option Session → List Question
asked_of seat n session = option_map_or (λ s. asked_by seat n s.account s.view) session []

-- on a seat, the questions of each session are the lines of its view
abbrev pub AreAskedOn : List Question → (seat : ℕ) → Place → Type 0
AreAskedOn questions seat place = (n : ℕ) → filter (is_of seat n) questions
    ≡ asked_of seat n (session_numbered (sessions_on place) n)

abbrev pub AreAsked : World → Type 0
AreAsked world = (seat : ℕ) → AreAskedOn world.questions seat (world.places seat)

-- there is no session of a number that none has yet
unnumbered_at : (session : Session) (earlier : List Session) (n : ℕ) (same : Bool) → (length earlier == n) ≡ same
    → length (session ∷ earlier) ≤ n → session_numbered earlier n ≡ None
    → cond same (Some session) (session_numbered earlier n) ≡ None
unnumbered_at session earlier n true is high none =
    let bad : length earlier ≡ n = eqb-true (length earlier) n is in absurd (omega arith)
unnumbered_at session earlier n false is high none = none

unnumbered : (sessions : List Session) (n : ℕ) → length sessions ≤ n → session_numbered sessions n ≡ None
unnumbered [] n high = refl
unnumbered (session ∷ earlier) n high =
    unnumbered_at session earlier n (length earlier == n) refl high (unnumbered earlier n (omega arith))

-- the newest session of a seat is another, of which the same was asked
changed_at : (seat n : ℕ) (before after : Session) (earlier : List Session) (asked : List Question) (same : Bool)
    → asked_by seat n after.account after.view ≡ asked_by seat n before.account before.view
    → asked ≡ asked_of seat n (cond same (Some before) (session_numbered earlier n))
    → asked ≡ asked_of seat n (cond same (Some after) (session_numbered earlier n))
changed_at seat n before after earlier asked true alike h = h ∙ sym alike
changed_at seat n before after earlier asked false alike h = h

opened_at : (seat n : ℕ) (session : Session) (earlier : List Session) (asked : List Question) (same : Bool)
    → (length earlier == n) ≡ same → session.view ≡ [] → asked ≡ asked_of seat n (session_numbered earlier n)
    → asked ≡ asked_of seat n (cond same (Some session) (session_numbered earlier n))
opened_at seat n session earlier asked true is new h =
    let at : length earlier ≡ n = eqb-true (length earlier) n is in
    let none : session_numbered earlier n ≡ None = unnumbered earlier n (omega arith) in
    h ∙ ap (asked_of seat n) none ∙ ap (asked_by seat n session.account) (sym new)
opened_at seat n session earlier asked false is new h = h

-- one question more, at its session and at the others
told_at : (seat n : ℕ) (session : Session) (line : LineForm) (earlier : List Session) (questions : List Question)
    (same : Bool) → (length earlier == n) ≡ same
    → filter (is_of seat n) questions ≡ asked_of seat n (cond same (Some session) (session_numbered earlier n))
    → filter (is_of seat n) questions
    ++ cond same (record {
      seat = seat;
      number = length earlier;
      account = session.account;
      view = session.view;
      line = line;
    } ∷ []) []
    ≡ asked_of seat n (cond same (Some (answered session line)) (session_numbered earlier n))
told_at seat n session line earlier questions true is h =
    let at : length earlier ≡ n = eqb-true (length earlier) n is in
    ap (λ before. before ++ record {
      seat = seat;
      number = length earlier;
      account = session.account;
      view = session.view;
      line = line;
    } ∷ []) h
    ∙ ap (λ m. asked_by seat n session.account session.view
    ++ record { seat = seat; number = m; account = session.account; view = session.view; line = line } ∷ []) at
told_at seat n session line earlier questions false is h = append-nil (filter (is_of seat n) questions) ∙ h

filter_one : (seat n : ℕ) (question : Question) (same : Bool) → is_of seat n question ≡ same
    → filter (is_of seat n) (question ∷ []) ≡ cond same (question ∷ []) []
filter_one seat n question same is = ap (λ b. cond b (question ∷ []) []) is

filter_more : (seat n : ℕ) (questions : List Question) (question : Question) (same : Bool)
    → is_of seat n question ≡ same
    → filter (is_of seat n) (questions ++ question ∷ [])
    ≡ filter (is_of seat n) questions ++ cond same (question ∷ []) []
filter_more seat n questions question same is =
    filter-append (is_of seat n) questions (question ∷ [])
    ∙ ap (λ more. filter (is_of seat n) questions ++ more) (filter_one seat n question same is)

own_question : (seat n number : ℕ) (question : Question) → question.seat ≡ seat → question.number ≡ number
    → is_of seat n question ≡ (number == n)
own_question seat n number question at is =
    let own : (question.seat == seat) ≡ true = eq-eqb question.seat seat at in
    ap (λ b. b && (question.number == n)) own ∙ ap (λ m. m == n) is

module _ (registry : Registry) (world : World) (h : AreAsked world) where
  asked_at : (seat : ℕ) (session : Session) → (world.places seat).present ≡ Some session → (n : ℕ)
      → filter (is_of seat n) world.questions
      ≡ asked_of seat n (cond (length (world.places seat).earlier == n) (Some session)
      (session_numbered (world.places seat).earlier n))
  asked_at seat session is n = rw is at (h seat n)

  -- the newest session changes, and no question is added
  asked-with_session : (seat : ℕ) (before after : Session) → (world.places seat).present ≡ Some before
      → ((n : ℕ) → asked_by seat n after.account after.view ≡ asked_by seat n before.account before.view)
      → AreAsked (with_session world seat after)
  asked-with_session seat before after is alike =
      updated (AreAskedOn world.questions) world.places seat
      (record { present = Some after; earlier = (world.places seat).earlier }) h
      (λ n. changed_at seat n before after (world.places seat).earlier (filter (is_of seat n) world.questions)
      (length (world.places seat).earlier == n) (alike n) (asked_at seat before is n))

  asked-answering : (seat : ℕ) (session : Session) (line : LineForm) → (world.places seat).present ≡ Some session
      → AreAsked (answering world seat session line)
  asked-answering seat session line is =
      updated_others (AreAskedOn (world.questions ++ question_of world seat session line ∷ [])) world.places seat
      (record { present = Some (answered session line); earlier = (world.places seat).earlier })
      (λ other not n.
      let another : is_of other n (question_of world seat session line) ≡ false =
      and_left (seat == other) (number_on world seat == n) not in
      filter_more other n world.questions (question_of world seat session line) false another
      ∙ append-nil (filter (is_of other n) world.questions) ∙ h other n)
      (λ n.
      filter_more seat n world.questions (question_of world seat session line) (number_on world seat == n)
      (own_question seat n (number_on world seat) (question_of world seat session line) refl refl)
      ∙ told_at seat n session line (world.places seat).earlier world.questions (number_on world seat == n) refl
      (asked_at seat session is n))

  free_none : (place : Place) (present : Option Session) → place.present ≡ present → is_none present ≡ true
      → sessions_on place ≡ place.earlier
  free_none place None is none = rw is refl
  free_none place (Some session) is none = cc

  asked-opening : (seat : ℕ) (name : List ℕ) → AreAsked (opening registry world seat name)
  unfolding opening
  asked-opening seat name =
      cond_both (nat_lt seat SEATS && is_none (world.places seat).present) _ world AreAsked
      (λ may. option_case AreAsked _ world (session_account registry name) h (λ account is.
      let free = free_none (world.places seat) (world.places seat).present refl ((and_parts _ _ may).1) in
      updated (AreAskedOn world.questions) world.places seat
      (record { present = Some (new_session account); earlier = (world.places seat).earlier }) h
      (λ n. opened_at seat n (new_session account) (world.places seat).earlier (filter (is_of seat n) world.questions)
      (length (world.places seat).earlier == n) refl refl
      (h seat n ∙ ap (λ sessions. asked_of seat n (session_numbered sessions n)) free))))
      (λ no. h)

  asked-asking : (seat : ℕ) (line : LineForm) → AreAsked (asking registry world seat line)
  unfolding asking
  asked-asking seat line =
      option_case AreAsked _ world (world.places seat).present h (λ session is.
      cond_both (may_ask registry session) _ world AreAsked
      (λ may. cond_both (accepts_go registry session line) _ _ AreAsked
      (λ begun. asked-with_session seat session (waiting session line false) is (λ n. refl))
      (λ no. asked-answering seat session line is))
      (λ no. h))

  asked-publishing : (seat : ℕ) → AreAsked (publishing registry world seat)
  unfolding publishing
  asked-publishing seat =
      option_case AreAsked _ world (world.places seat).present h (λ session is.
      option_case AreAsked _ world session.go h (λ pending pends.
      cond_both pending.published _ _ AreAsked (λ done. h)
      (λ due. asked-with_session seat session (waiting session pending.line true) is (λ n. refl))))

  asked-finishing : (seat : ℕ) → AreAsked (finishing world seat)
  unfolding finishing
  asked-finishing seat =
      option_case AreAsked _ world (world.places seat).present h (λ session is.
      option_case AreAsked _ world session.go h (λ pending pends.
      cond_both pending.published _ _ AreAsked (λ due. asked-answering seat session pending.line is) (λ no. h)))

  asked-withdrawing : (seat : ℕ) → AreAsked (withdrawing registry world seat)
  unfolding withdrawing
  asked-withdrawing seat =
      cond_both (option_map_or (may_withdraw registry) (world.places seat).present true) _ world AreAsked
      (λ may. h) (λ no. h)

  -- a seat after a firing reached its session
  asked-reached : (seat : ℕ) (place : Place) (session : Session) (firing : Firing) → place.present ≡ Some session
      → AreAskedOn world.questions seat place
      → AreAskedOn world.questions seat (record place { present = Some (reached session (firing_made firing)) })
  asked-reached seat place session firing is before n =
      changed_at seat n session (reached session (firing_made firing)) place.earlier
      (filter (is_of seat n) world.questions) (length place.earlier == n) refl (rw is at (before n))

  asked-passed : (seat : ℕ) (place : Place) (firing : Firing) (named : Option ℕ)
      → AreAskedOn world.questions seat place → AreAskedOn world.questions seat (passed firing named place)
  asked-passed seat place firing named before =
      option_case (AreAskedOn world.questions seat) _ place place.present before (λ session is.
      cond_both (option_map_or (λ life. life == length place.earlier) named false) _ _
      (AreAskedOn world.questions seat)
      (λ own. before) (λ other. asked-reached seat place session firing is before))

  asked-offered : (seat : ℕ) (place : Place) (due : DueOffer)
      → AreAskedOn world.questions seat place → AreAskedOn world.questions seat (offered due place)
  asked-offered seat place due before =
      option_case (AreAskedOn world.questions seat) _ place place.present before (λ session is.
      cond_both (due.life == length place.earlier) _ _ (AreAskedOn world.questions seat)
      (λ own. asked-reached seat place session due.firing is before) (λ other. before))

  asked-looking : (cpu : ℕ) (firing : Firing) → AreAsked (looking registry world cpu firing)
  unfolding looking
  asked-looking cpu firing =
      cond_both (nat_lt cpu registry.cpus && (firing.cpu == cpu && is_done (world.due cpu))) _ world AreAsked
      (λ may seat. asked-passed seat (world.places seat) firing (mask_of registry world.writes firing seat) (h seat))
      (λ no. h)

  asked-offering : (cpu seat : ℕ) → AreAsked (offering world cpu seat)
  unfolding offering
  asked-offering cpu seat =
      option_case AreAsked _ world (world.due cpu seat) h (λ due is.
      updated (AreAskedOn world.questions) world.places seat (offered due (world.places seat)) h
      (asked-offered seat (world.places seat) due (h seat)))

  asked-closing : (seat : ℕ) → AreAsked (closing world seat)
  unfolding closing
  asked-closing seat =
      option_case AreAsked _ world (world.places seat).present h (λ session is.
      updated (AreAskedOn world.questions) world.places seat
      (record { present = None; earlier = session ∷ (world.places seat).earlier }) h (asked_at seat session is))

asked-happens : (registry : Registry) (world : World) (step : StepForm) → AreAsked world
    → AreAsked (after_step registry world step)
asked-happens registry world (opens seat name) h = asked-opening registry world h seat name
asked-happens registry world (asks seat line) h = asked-asking registry world h seat line
asked-happens registry world (publishes seat) h = asked-publishing registry world h seat
asked-happens registry world (finishes seat) h = asked-finishing registry world h seat
asked-happens registry world (withdraws seat) h = asked-withdrawing registry world h seat
asked-happens registry world (looks cpu firing) h = asked-looking registry world h cpu firing
asked-happens registry world (offers cpu seat) h = asked-offering registry world h cpu seat
asked-happens registry world (closes seat) h = asked-closing registry world h seat

asked-fold : (registry : Registry) (world : World) (steps : List StepForm) → AreAsked world
    → AreAsked (fold (after_step registry) world steps)
asked-fold registry world [] h = h
asked-fold registry world (step ∷ steps) h =
    asked-fold registry (after_step registry world step) steps (asked-happens registry world step h)

-- in every world
pub all_asked : (registry : Registry) (steps : List StepForm) → AreAsked (world_after registry steps)
all_asked registry steps = asked-fold registry new_world steps (λ seat n. refl)

-- the texts of the replies to questions
abbrev IsTextOf : Registry → Question → List ℕ → Type 0
IsTextOf registry question text = IsText question.account registry question.view question.line text

abbrev AreTexts : Registry → List Question → List (List ℕ) → Type 0
AreTexts registry [] texts = texts ≡ []
AreTexts registry (question ∷ questions) [] = ⊥
AreTexts registry (question ∷ questions) (text ∷ texts) =
    IsTextOf registry question text × AreTexts registry questions texts

module _ (registry : Registry) (seat n : ℕ) where
  texts_more : (question : Question) (questions : List Question) (told : SeatReply) (texts : List (List ℕ)) (same : Bool)
      → IsReply registry question told → AreTexts registry questions texts
      → AreTexts registry (cond same (question ∷ questions) questions) (cond same (told.1 ∷ texts) texts)
  texts_more question questions told texts true h more = (h.1, more)
  texts_more question questions told texts false h more = more

  texts_of : (questions : List Question) (told : List SeatReply) → AreReplies registry questions told
      → AreTexts registry (filter (is_of seat n) questions) (told_to seat n questions told)
  texts_of [] [] h = refl
  texts_of [] (one ∷ told) h = absurd h
  texts_of (question ∷ questions) [] h = absurd h
  texts_of (question ∷ questions) (one ∷ told) h =
      texts_more question (filter (is_of seat n) questions) one (told_to seat n questions told)
      (is_of seat n question) h.0 (texts_of questions told h.1)

  -- the last text
  record LastText (questions : List Question) (question : Question) (texts : List (List ℕ)) : Type 0 where
    earlier : List (List ℕ)
    last : List ℕ
    whole : texts ≡ earlier ++ last ∷ []
    before : AreTexts registry questions earlier
    now : IsTextOf registry question last

  last_text : (questions : List Question) (question : Question) (texts : List (List ℕ))
      → AreTexts registry (questions ++ question ∷ []) texts → LastText questions question texts
  last_text [] question [] h = absurd h
  last_text [] question (text ∷ texts) h = record {
    earlier = [];
    last = text;
    whole = ap (λ more. text ∷ more) h.1;
    before = refl;
    now = h.0;
  }
  last_text (first ∷ questions) question [] h = absurd h
  last_text (first ∷ questions) question (text ∷ texts) h =
      let more = last_text questions question texts h.1 in
      record {
        earlier = text ∷ more.earlier;
        last = more.last;
        whole = ap (λ rest. text ∷ rest) more.whole;
        before = (h.0, more.before);
        now = more.now;
      }

  -- what answers the lines of a view is what it is answered alone
  answers_of : (account : Account) (view : List Reached) (texts : List (List ℕ))
      → AreTexts registry (asked_by seat n account view) texts
      → (answers : List Answer) × Alone account registry view answers × (texts ≡ map reply_text answers)
  answers_of account [] texts h = ([], refl, h)
  answers_of account (own_line line ∷ view) texts h =
      let last = last_text (asked_by seat n account view)
      (record { seat = seat; number = n; account = account; view = view; line = line }) texts h in
      let before = answers_of account view last.earlier last.before in (
        before.0 ++ last.now.0 ∷ [],
        (before.0, last.now.0, before.1, last.now.1, refl),
        last.whole
            ∙ ap (λ front. front ++ last.last ∷ []) before.2
            ∙ ap (λ text. map reply_text before.0 ++ text ∷ []) last.now.2
            ∙ sym (map-append reply_text before.0 (last.now.0 ∷ [])),
      )
  answers_of account (firing_made firing ∷ view) texts h = answers_of account view texts h

  alone_at : (session : Option Session) (texts : List (List ℕ)) → AreTexts registry (asked_of seat n session) texts
      → IsAnsweredAlone registry session texts
  alone_at None texts h = h
  alone_at (Some session) texts h = answers_of session.account session.view texts h

-- What was told to a session is what its view is answered alone.
pub told_alone : (registry : Registry) (steps : List StepForm) (told : List SeatReply)
    → AreReplies registry (world_after registry steps).questions told → (seat n : ℕ)
    → IsAnsweredAlone registry (session_of (world_after registry steps) seat n)
    (told_to seat n (world_after registry steps).questions told)
told_alone registry steps told h seat n =
    alone_at registry seat n (session_of (world_after registry steps) seat n)
    (told_to seat n (world_after registry steps).questions told)
    (subst (λ questions. AreTexts registry questions (told_to seat n (world_after registry steps).questions told))
    (all_asked registry steps seat n) (texts_of registry seat n (world_after registry steps).questions told h))
